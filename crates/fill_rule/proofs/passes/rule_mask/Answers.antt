-- The flags of no place, and those of one place more. Assumes nothing.
use Rattle.std.proofs.Common.{arith}
use Rattle.fill_rule.proofs.Mask.{mask-from-start, mask-from-step}
use Rattle.fill_rule.proofs.passes.rule_mask.Goals as goal

pub loop-q-init : goal.loop-q-init
loop-q-init c = mask-from-start _ _ _ _ _ _ _ _ _ c.count-count.ensures.0 c.with_if-v.ensures

pub loop-q-preserved : goal.loop-q-preserved
loop-q-preserved c = mask-from-step _ _ _ _ _ _ _ _ _ _ _ _ (omega arith) (omega arith) c.place_cuts.ensures
    c.with_if-v-in-loop-q.ensures c.loop-q.invariant
