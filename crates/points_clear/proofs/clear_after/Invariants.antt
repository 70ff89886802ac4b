-- The loop of `points_clear::clear_after`: the columns passed are cleared, and the others as found. Assumes nothing.
use Rattle.points_clear.proofs.Turns.{ColumnsTo}
use Rattle.points_clear.proofs.clear_after.Given as goal

abbrev pub invariant-loop-n : goal.invariant-loop-n
invariant-loop-n l = ColumnsTo l.p l.initial.chart l.n l.chart
