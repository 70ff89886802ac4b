-- The loop's invariant of `table_suffix::rows::put_rows`: the costs from the starts passed are written. Assumes nothing.
use Rattle.std.proofs.Common.{◌≤◌}
use Rattle.table_suffix.specs.Rows.{RowsFrom}
use Rattle.table_suffix.proofs.rows.put_rows.Given as goal

abbrev pub invariant-loop-a : goal.invariant-loop-a
invariant-loop-a l = (l.i ≤ l.a) × RowsFrom l.p l.r l.fits l.tables l.full l.i l.a l.j l.rows
