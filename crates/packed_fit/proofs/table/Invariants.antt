-- The loop of `packed_fit::table`: the rules passed are written. Assumes nothing.
use Rattle.packed_fit.specs.Fit.{fit_size}
use Rattle.packed_fit.proofs.Tables.{TableTo}
use Rattle.packed_fit.proofs.table.Given as goal

abbrev pub invariant-loop-r : goal.invariant-loop-r
invariant-loop-r l = TableTo l.p l.w l.n fit_size l.r l.t
