-- The loop's invariant of `count_made::count_on`: the buffer holds the derivation of number i. Assumes nothing.
use Rattle.count_made.proofs.Loop.{CountedTo}
use Rattle.count_made.proofs.count_on.Given as goal

abbrev pub invariant-loop-i : goal.invariant-loop-i
invariant-loop-i l =
    CountedTo l.made.p.now l.made.rules l.made.fits.now l.made.chart.now l.made.tables.now l.root.start l.root.n l.fn.buf l.buf l.i
