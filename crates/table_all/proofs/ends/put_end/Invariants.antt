-- The loop's invariant of `table_all::ends::put_end`: the spans from the starts passed are done. Assumes nothing.
use Rattle.table_all.specs.Spans.{EndFrom}
use Rattle.table_all.proofs.ends.put_end.Given as goal

abbrev pub invariant-loop-i : goal.invariant-loop-i
invariant-loop-i l =
    EndFrom l.p l.rules l.fits l.chart l.i l.j l.initial.tables l.initial.rows l.tables l.rows l.live
