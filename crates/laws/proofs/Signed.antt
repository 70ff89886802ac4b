-- Sizes of signed numbers. Assumes nothing.
use Prim.Native.Nat.{ℕ, zero, suc, ◌≤◌}
use native.Mathlib.Omega.{arith}
use lib.IntN.{pos, neg_ℤ}
use lib.Signed.{mag}

-- the size of minus n is at most n
pub neg-size : (n : ℕ) → mag (neg_ℤ (pos n)) ≤ n
neg-size zero = omega arith
neg-size (suc n) = omega arith
