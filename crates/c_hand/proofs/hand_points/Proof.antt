-- `c_hand::hand_points` meets its contract. Assumes nothing.
use native.Mathlib.Omega.{arith}
use Rattle.c_hand.proofs.Copies.{points_kept, points-past}
use Rattle.c_hand.proofs.hand_points.Statement.{statement}
use Rattle.c_hand.proofs.hand_points.Tie as tie

returns : tie.Need-returns-then-used_bytes
returns c =
    points_kept c.before.before.before.before.args.h.now _ _ c.before.before.read_points-points.ensures
    c.before.used_bytes.ensures c.if-used_bytes.true

returns-2 : tie.Need-returns
returns-2 c =
    points-past c.before.before.before.before.args.h.now _ _ c.before.before.read_points-points.ensures
    c.before.used_bytes.ensures c.if-used_bytes.false

pub hand_points_spec : {M : Type 1} → statement M
hand_points_spec = tie.close (tie.spec
    (λ c κs. omega arith) (λ c κs. omega arith) returns (λ c. omega arith) returns-2)
