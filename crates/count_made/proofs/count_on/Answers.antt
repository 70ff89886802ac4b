-- `count_made::count_on` meets its contract: no derivation is left after the last one, and after 4,096 there are more. Assumes nothing.
use Rattle.std.proofs.Common.{arith, refl}
use Rattle.count_made.proofs.Loop.{counted_step, counted-last, counted-all}
use Rattle.count_made.proofs.count_on.Goals as goal

pub returns-in_default : goal.returns-in_default
returns-in_default c = counted-last _ _ _ _ _ _ _ _ _ _ _ _ c.loop-i.invariant c.in_default.ensures.next refl (omega arith)

pub loop-i-preserved : goal.loop-i-preserved
loop-i-preserved c =
    counted_step _ _ _ _ _ _ _ _ _ _ _ _ c.loop-i.invariant c.in-Some.ensures.next (omega (arith, c.in-Some.ensures.has_nodes))

pub returns : goal.returns
returns c = counted-all _ _ _ _ _ _ _ _ _ _ c.loop-i.invariant (omega arith)
