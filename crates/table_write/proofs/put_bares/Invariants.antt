-- The loop's invariant of `table_write::put_bares`: the costs of the rules passed are written. Assumes nothing.
use Rattle.table_write.specs.Writes.{BaresPut}
use Rattle.table_write.proofs.put_bares.Given as goal

abbrev pub invariant-loop-r : goal.invariant-loop-r
invariant-loop-r l = BaresPut l.r l.i l.j l.rows l.initial.tables l.tables
