-- The loop of `points_clear::clear_column`: the cells passed are zero, and the others as found. Assumes nothing.
use Rattle.points_clear.proofs.Turns.{CellsTo}
use Rattle.points_clear.proofs.clear_column.Given as goal

abbrev pub invariant-loop-i : goal.invariant-loop-i
invariant-loop-i l = CellsTo l.n l.initial.chart l.i l.chart
