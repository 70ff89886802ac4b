-- The points passed are read. Assumes nothing.
use Rattle.sizes.specs.Sizes.{max_points}
use Rattle.c_hand.proofs.Copies.{Copied, point_bytes}
use Rattle.c_hand.proofs.read_points.Given as goal

abbrev pub invariant-loop-i : goal.invariant-loop-i
invariant-loop-i l = Copied max_points (point_bytes l.fn.h) max_points l.i l.point-items
