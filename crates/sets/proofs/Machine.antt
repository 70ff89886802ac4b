-- What the machine computes is what the specification says: `(w >> k) & 1` is bit k of w, and `w | (1 << k)` is w with k in it.
-- Assumes nothing.
use Prim.Native.Nat.{ℕ, zero, suc, ◌+◌, ◌*◌, ◌/◌, ◌%◌, ◌^◌, ◌<◌, max}
use mathlib.Core.Path.{◌≡◌, sym, ap, ap₂, ◌∙◌}
use native.Mathlib.Nat.{one-mul, max-zero, pow-suc}
use native.Mathlib.Omega.{arith}
use lib.Bits.{bit_or, bit_and, or_step, or_zero_r, and_mask}
use lib.Dec.{eqb, lit<}
use lib.Pow.{shl_exact}
use Rattle.sets.specs.Set.{has, insert}
use Rattle.sets.proofs.Halving.{insert-zero, insert-suc}

-- the test of bit k
pub mask-is-has : (k w : ℕ) → eqb (bit_and (w / 2 ^ k) 1) 1 ≡ has k w
unfolding has
mask-is-has k w = ap (λ (x : ℕ). eqb x 1) (and_mask (w / 2 ^ k) 1)

-- `or` with a power of two is an insertion
pub or-is-insert : (k w : ℕ) → bit_or w (2 ^ k) ≡ insert k w
or-is-insert zero w = or_step w 1 ∙ ap (λ (x : ℕ). x * 2 + max (w % 2) 1) (or_zero_r (w / 2)) ∙ omega (arith, insert-zero w)
or-is-insert (suc k) w =
    let half : 2 ^ suc k / 2 ≡ 2 ^ k = omega (arith, pow-suc 2 k) in
    let even : 2 ^ suc k % 2 ≡ 0 = omega (arith, pow-suc 2 k) in
    or_step w (2 ^ suc k)
    ∙ ap₂ (λ (x y : ℕ). bit_or (w / 2) x * 2 + max (w % 2) y) half even
    ∙ ap₂ (λ (x y : ℕ). x * 2 + y) (or-is-insert k (w / 2)) (max-zero (w % 2))
    ∙ sym (insert-suc k w)

-- the shift of 1 loses no bit, in sets of every width
pub shift_one : (n k : ℕ) → k < n → 1 * 2 ^ k % 2 ^ n ≡ 2 ^ k
shift_one n k h = shl_exact 1 k n (lit< tt) (omega arith) ∙ one-mul (2 ^ k)

pub shift-or-is-insert : (n k w : ℕ) → k < n → bit_or w (1 * 2 ^ k % 2 ^ n) ≡ insert k w
shift-or-is-insert n k w h = ap (bit_or w) (shift_one n k h) ∙ or-is-insert k w
