-- Signed numbers as the machine holds them: a width keeps a small one, and the test of its sign takes it apart into sign and size.
-- Assumes nothing.
use Prim.Native.Nat.{ℕ, zero, suc, ◌≤◌, ◌<◌}
use native.Mathlib.Omega.{arith}
use mathlib.Core.Bool.{true, false, true≢false}
use mathlib.Core.Path.{◌≡◌, refl, sym, ap, ◌∙◌}
use lib.Dec.{T, ltb}
use lib.IntN.{ℤ, pos, negsuc, neg_ℤ, nat_abs, ◌-ℤ◌, +ℤ_idl}
use lib.Signed.{mag, lt_z, non_neg}
use borrow.Author.Tests.{ltb-true}
use mir.Syntax.{Width, w32}
use mir.Val.{Fits, SFits, to_z, of_z, bits}
use mir.Facts.{to_z-of_z, Fits-nat_abs}

-- what a width keeps of a signed number
abbrev pub kept : Width → ℤ → ℤ
kept w z = to_z w (of_z w z)

-- ---- the sign, by the test

module _ (w : Width) (P : ℤ → Type 0) where
  -- P holds of a number that the test finds negative, if it holds of each negative number
  pub negative : ((n : ℕ) → SFits w (negsuc n) → P (negsuc n)) → (z : ℤ) → SFits w z → lt_z (kept w z) (pos 0) ≡ true → P z
  negative step (negsuc n) f t = step n f
  negative step (pos n) f t =
      let l : n < 0 = ltb-true n 0 (ap (λ (y : ℤ). lt_z y (pos 0)) (sym (to_z-of_z f)) ∙ t) in
      absurd (omega arith)

  pub natural : ((n : ℕ) → SFits w (pos n) → P (pos n)) → (z : ℤ) → SFits w z → lt_z (kept w z) (pos 0) ≡ false → P z
  natural step (pos n) f t = step n f
  natural step (negsuc n) f t = absurd (true≢false (ap (λ (y : ℤ). lt_z y (pos 0)) (sym (to_z-of_z f)) ∙ t))

-- ---- 32 bits

pub fits-32 : (z : ℤ) → mag z < 2147483648 → SFits w32 z
fits-32 z h = record { sfits = h }

pub through : (z : ℤ) → mag z < 2147483648 → kept w32 z ≡ z
through z h = to_z-of_z (fits-32 z h)

-- minus a number, as the machine computes it
abbrev pub negated : ℤ → ℤ
negated z = pos 0 -ℤ kept w32 z

neg-mag : (z : ℤ) → mag (neg_ℤ z) ≤ suc (mag z)
neg-mag (pos zero) = omega arith
neg-mag (pos (suc n)) = omega arith
neg-mag (negsuc n) = omega arith

-- a number whose negation is one of 32 bits too
module _ (z : ℤ) (small : mag z < 2147483647) where
  negated-is : negated z ≡ neg_ℤ z
  negated-is = ap (λ (y : ℤ). pos 0 -ℤ y) (through z (omega arith)) ∙ +ℤ_idl (neg_ℤ z)

  pub negated_fits : SFits w32 (negated z)
  negated_fits = rw negated-is (fits-32 (neg_ℤ z) (omega (arith, neg-mag z)))

  pub kept-negated : kept w32 (negated z) ≡ neg_ℤ z
  kept-negated = to_z-of_z negated_fits ∙ negated-is

  module _ (test : lt_z (kept w32 z) (pos 0) ≡ true) where
    pub is_negative : z ≡ negsuc (mag z)
    is_negative = negative w32 (λ y. y ≡ negsuc (mag y)) (λ n f. refl) z (fits-32 z (omega arith)) test

    size-kept : kept w32 (negated z) ≡ pos (suc (mag z))
    size-kept = kept-negated ∙ ap neg_ℤ is_negative

    pub negated-casts : (w : Width) → T (ltb 31 (bits w)) → T (non_neg (kept w32 (negated z))) × Fits w (nat_abs (kept w32 (negated z)))
    negated-casts w wide = rw size-kept (tt, Fits-nat_abs wide (fits-32 (pos (suc (mag z))) (omega arith)))

    pub negated_size : nat_abs (kept w32 (negated z)) ≡ suc (mag z)
    negated_size = ap nat_abs size-kept

  module _ (test : lt_z (kept w32 z) (pos 0) ≡ false) where
    pub is-natural : z ≡ pos (mag z)
    is-natural = natural w32 (λ y. y ≡ pos (mag y)) (λ n f. refl) z (fits-32 z (omega arith)) test

    kept-natural : kept w32 z ≡ pos (mag z)
    kept-natural = through z (omega arith) ∙ is-natural

    pub natural_casts : (w : Width) → T (ltb 31 (bits w)) → T (non_neg (kept w32 z)) × Fits w (nat_abs (kept w32 z))
    natural_casts w wide = rw kept-natural (tt, Fits-nat_abs wide (fits-32 (pos (mag z)) (omega arith)))

    pub natural-size : nat_abs (kept w32 z) ≡ mag z
    natural-size = ap nat_abs kept-natural
