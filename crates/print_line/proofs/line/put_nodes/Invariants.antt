-- The nodes passed are written, in at most 12 bytes each. Assumes nothing.
use Rattle.std.proofs.Common.{◌+◌, ◌*◌, ◌≤◌, take}
use Rattle.text.specs.Line.{parts}
use Rattle.print_number.specs.Put.{Put}
use Rattle.print_line.specs.Sizes.{node_size}
use Rattle.print_line.proofs.line.put_nodes.Given as goal

abbrev pub invariant-loop-i : goal.invariant-loop-i
invariant-loop-i l = Put (parts (take (2 * l.i) l.e)) l.at l.end l.fn.out l.out × (l.end ≤ l.at + node_size * l.i)
