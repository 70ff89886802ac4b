-- The loop's invariant: the positions passed are taken, and the ends before them are known. Assumes nothing.
use Rattle.fill_columns.proofs.Filling.{FillTo}
use Rattle.fill_columns.proofs.take_all.Given as goal

abbrev pub invariant-loop-m : goal.invariant-loop-m
invariant-loop-m l = FillTo l.p l.fits l.n l.initial.chart l.m l.chart l.ends l.reach
