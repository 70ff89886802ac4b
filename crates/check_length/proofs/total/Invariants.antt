-- The loop's invariant of `check_length::total`: the sum so far and the lengths of the nodes left make the whole sum. The sum so far is at
-- most 32768 for each node passed. Assumes nothing.
use Rattle.check_length.specs.Measure.{lengths_in}
use Rattle.check_length.proofs.Lengths.{SumTo}
use Rattle.check_length.proofs.total.Given as goal

abbrev pub invariant-loop-i : goal.invariant-loop-i
invariant-loop-i l = SumTo (lengths_in l.l) l.e l.i l.sum
