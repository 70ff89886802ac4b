-- The loop's invariant: the set has the kinds of the places passed. Assumes nothing.
use Rattle.fill_empty.proofs.Gather.{KindsTo}
use Rattle.fill_empty.proofs.kinds.kinds_of.Given as goal

abbrev pub invariant-loop-q : goal.invariant-loop-q
invariant-loop-q l = KindsTo l.p l.r l.last l.q l.v
