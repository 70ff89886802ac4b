-- The word of one rule more. Assumes nothing.
use Rattle.std.proofs.Common.{arith}
use Rattle.fill_inner.proofs.Rule.{all-step}
use Rattle.fill_inner.proofs.rules.begin_all.Goals as goal

pub loop-r-preserved : goal.loop-r-preserved
loop-r-preserved c = all-step _ _ _ _ _ _ _ _ _ _ _ _ _ _ (omega arith) c.from.ensures c.begins_near.ensures c.loop-r.invariant
