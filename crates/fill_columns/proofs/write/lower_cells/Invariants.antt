-- The loop's invariant: the cells of the starts passed are written. Assumes nothing.
use Rattle.fill_columns.proofs.Writing.{LowerTo}
use Rattle.fill_columns.proofs.write.lower_cells.Given as goal

abbrev pub invariant-loop-i : goal.invariant-loop-i
invariant-loop-i l =
    LowerTo l.p l.fits l.rules l.n l.ends l.reach l.lasts l.initial.chart l.initial.starts l.initial.live l.i l.chart l.starts l.live
