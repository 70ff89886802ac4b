-- The loop's invariant of `table_start::put_starts`: the costs of the rules passed are written. Assumes nothing.
use Rattle.table_start.specs.Starts.{StartsPut}
use Rattle.table_start.proofs.put_starts.Given as goal

abbrev pub invariant-loop-r : goal.invariant-loop-r
invariant-loop-r l = StartsPut l.p l.r l.fits l.tables l.full l.i l.j l.initial.rows l.rows
