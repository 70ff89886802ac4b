-- A pass, rule by rule. Assumes nothing.
use Rattle.std.proofs.Common.{refl}
use Rattle.grammar.proofs.Bounds.{valid-count, valid-used}
use Rattle.load_nullable.specs.Nullable.{pass}
use Rattle.load_nullable.proofs.Pass.{pass-again, pass-last}
use Rattle.load_nullable.proofs.nullable_pass.Goals as goal

pub shared_ref_as_front-rule-items : goal.shared_ref_as_front-rule-items
shared_ref_as_front-rule-items c = search valid-count

pub loop-rule-init : goal.loop-rule-init
unfolding pass
loop-rule-init c = refl

pub with_head-s-requires : goal.with_head-s-requires
with_head-s-requires c = search valid-used

pub loop-rule-preserved : goal.loop-rule-preserved
loop-rule-preserved c = search pass-again

pub returns : goal.returns
returns c = search pass-last
