-- The bytes passed are written. Assumes nothing.
use Rattle.std.proofs.Common.{◌+◌, take}
use Rattle.print_number.specs.Put.{Put}
use Rattle.print_number.proofs.put_bytes.Given as goal

abbrev pub invariant-loop-i : goal.invariant-loop-i
invariant-loop-i l = Put (take l.i l.s) l.at (l.at + l.i) l.initial.out l.out
