-- A place that holds no member of the set ends the loop. Assumes nothing.
use Rattle.std.proofs.Common.{refl}
use Rattle.grammar.specs.Valid.{all}
use Rattle.grammar.proofs.Bounds.{rule-parts}
use Rattle.grammar.proofs.Laws.{all-next}
use Rattle.load_nullable.proofs.Pass.{used-place-valid, rule-stops, rule-whole}
use Rattle.load_nullable.proofs.rule_in.Goals as goal

pub shared_ref_as_front-p-items : goal.shared_ref_as_front-p-items
shared_ref_as_front-p-items c = (rule-parts _ c.requires).1

pub loop-p-init : goal.loop-p-init
unfolding all
loop-p-init c = refl

pub place_in-requires : goal.place_in-requires
place_in-requires c = search used-place-valid

pub returns-then-not-place_in : goal.returns-then-not-place_in
returns-then-not-place_in c = search rule-stops

pub loop-p-preserved : goal.loop-p-preserved
loop-p-preserved c = search all-next

pub returns : goal.returns
returns c = search rule-whole
