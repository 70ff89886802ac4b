-- The loop's invariant of `table_solve::pass`: the contract for the rules passed. Assumes nothing.
use Rattle.table_solve.specs.Solve.{PassSolved}
use Rattle.table_solve.proofs.pass.Given as goal

abbrev pub invariant-loop-r : goal.invariant-loop-r
invariant-loop-r l = PassSolved l.p l.r l.cell l.mask l.tables l.i l.j l.initial.full l.full l.changed
