-- The loop's invariant: the set has the ends passed. Assumes nothing.
use Rattle.fill_reach.specs.Reach.{ReachFrom}
use Rattle.fill_reach.proofs.reach_from.Given as goal

abbrev pub invariant-loop-c : goal.invariant-loop-c
invariant-loop-c l = ReachFrom l.chart l.i l.c l.ends
