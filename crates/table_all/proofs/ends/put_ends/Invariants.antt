-- The loop's invariant of `table_all::ends::put_ends`: the spans of the ends passed are done. Assumes nothing.
use Rattle.table_all.specs.Spans.{EndsDone}
use Rattle.table_all.proofs.ends.put_ends.Given as goal

abbrev pub invariant-loop-j : goal.invariant-loop-j
invariant-loop-j l = EndsDone l.p l.rules l.fits l.chart l.empty l.n l.j l.initial.tables l.tables l.rows
