-- The points passed are written. Assumes nothing.
use Rattle.std.proofs.Common.{◌+◌}
use Rattle.c_hand.specs.Hand.{hand_size, points_at}
use Rattle.c_hand.proofs.Copies.{Copied, with_points}
use Rattle.c_hand.proofs.write_points.Given as goal

abbrev pub invariant-loop-i : goal.invariant-loop-i
invariant-loop-i l = Copied hand_size (with_points l.fn.h l.fn.r.points) hand_size (points_at + l.i) l.h
