-- The loop of `fill_holders::ends`: none of the places passed is such a place. Assumes nothing.
use Rattle.fill_holders.proofs.Ending.{NoneTo}
use Rattle.fill_holders.proofs.ends.Given as goal

abbrev pub invariant-loop-q : goal.invariant-loop-q
invariant-loop-q l = NoneTo l.p l.r l.last l.q
