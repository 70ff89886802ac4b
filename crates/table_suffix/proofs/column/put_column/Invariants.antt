-- The loop's invariant of `table_suffix::column::put_column`: the costs of the places from q on are written. Assumes nothing.
use Rattle.table_suffix.specs.Within.{ColumnFrom}
use Rattle.table_suffix.proofs.column.put_column.Given as goal

abbrev pub invariant-loop-q : goal.invariant-loop-q
invariant-loop-q l =
    ColumnFrom l.p l.r l.word l.tables l.full l.part.i l.a l.part.from l.part.j l.at l.q l.initial.rows l.rows
