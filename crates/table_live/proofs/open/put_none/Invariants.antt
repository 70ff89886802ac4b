-- The loop's invariant of `table_live::open::put_none`: the places passed have 513. Assumes nothing.
use Rattle.table_live.specs.Live.{NoneBefore}
use Rattle.table_live.proofs.open.put_none.Given as goal

abbrev pub invariant-loop-q : goal.invariant-loop-q
invariant-loop-q l = NoneBefore l.p l.r l.i l.q l.initial.rows l.rows
