-- One point of a state: whether it is set, and where. Assumes nothing.
use Prim.Native.Nat.{ℕ, ◌+◌, ◌≤◌}
use mathlib.Core.Bool.{true, false, or-true}
use mathlib.Core.List.{List}
use mathlib.Core.Logic.{dite}
use mathlib.Core.Path.{◌≡◌, sym}
use native.Mathlib.Decide.{dec_le}
use native.Mathlib.Omega.{arith}
use lib.Dec.{leb}
use lib.ListN.{length, get_or, get_or-eq_default}
use borrow.Author.Tests.{lt-leb, eq-eqb, ne_eqb}
use Rattle.sizes.specs.Sizes.{max_input, max_points}
use Rattle.results.specs.Recognize.{State, state_check}
use Rattle.results.specs.Points.{point_check}
use Rattle.results.proofs.State.{count_low, point-low}

-- a name over 7 has no point
pub no_name : (points : List ℕ) (k : ℕ) → length points ≡ max_points → max_points ≤ k → 0 ≡ get_or points k 0
no_name points k long l = sym (get_or-eq_default points 0 {n = k} (omega arith))

-- a point that is set is within the 64 bytes, if check 14 lets the state through
pub target-low : (h : State) (k n : ℕ) → (state_check h).fails ≡ false → get_or h.points k 0 ≡ n + 1 → n ≤ max_input
target-low h k n s e = omega (arith, count_low h s, point-low h s k)

pub point-none : (h : State) (k : ℕ) → get_or h.points k 0 ≡ 0 → (point_check h k).fails ≡ true
point-none h k e = rw (eq-eqb (get_or h.points k 0) 0 e) (or-true (leb max_points k))

pub point-there : (h : State) (k n : ℕ) → length h.points ≡ max_points → get_or h.points k 0 ≡ n + 1 → (point_check h k).fails ≡ false
point-there h k n long e = dite (dec_le max_points k)
    (λ l. absurd (omega (arith, no_name h.points k long l)))
    (λ l. rw (lt-leb max_points k (omega arith), ne_eqb (get_or h.points k 0) 0 (omega arith)))
