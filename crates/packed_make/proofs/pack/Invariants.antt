-- The loop of `packed_make::pack`: the bytes have the rules passed, and no others. Assumes nothing.
use Rattle.packed_make.proofs.Rows.{Rows}
use Rattle.packed_make.proofs.pack.Given as goal

abbrev pub invariant-loop-r : goal.invariant-loop-r
invariant-loop-r l = Rows l.fn.g l.fn.year l.r l.p
