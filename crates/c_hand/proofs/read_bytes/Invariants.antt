-- The bytes passed are read. Assumes nothing.
use Rattle.std.proofs.Common.{map}
use Rattle.sizes.specs.Sizes.{max_input}
use Rattle.numbers.specs.Numbers.{byte_in}
use Rattle.c_hand.proofs.Copies.{Copied}
use Rattle.c_hand.proofs.read_bytes.Given as goal

abbrev pub invariant-loop-i : goal.invariant-loop-i
invariant-loop-i l = Copied max_input (map byte_in l.fn.h) max_input l.i l.byte-items
