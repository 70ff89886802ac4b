-- Signed numbers of 32 bits: sizes of sums, and the rounding of hundredths to tenths by sign and size. Assumes nothing.
use Prim.Native.Nat.{ℕ, suc, ◌+◌, ◌-◌, ◌≤◌}
use mathlib.Core.Bool.{Bool, true, false, cond}
use mathlib.Core.Path.{◌≡◌, refl, sym, ap, ◌∙◌}
use native.Mathlib.Omega.{arith}
use lib.Dec.{ltb}
use lib.IntN.{ℤ, pos, negsuc, neg_ℤ, sub_ℕ, nat_abs, ◌+ℤ◌}
use lib.Signed.{mag, lt_z}
use mir.Syntax.{w32}
use mir.Val.{SFits, to_z}
use mir.Facts.{to_z_pos}
use Rattle.numbers.proofs.Signs.{kept, fits-32, negated, negated_fits, kept-negated, is_negative, negated_size, is-natural, natural-size}
use Rattle.results.specs.Measure.{nearest, rounded}

-- ---- sizes

sub-size : (a b : ℕ) → mag (sub_ℕ a (suc b)) ≤ a + b
sub-size a b = go (ltb a (suc b)) refl
  where
    go : (t : Bool) → ltb a (suc b) ≡ t → mag (cond t (negsuc (suc b - suc a)) (pos (a - suc b))) ≤ a + b
    go true h = omega arith
    go false h = omega arith

pub sum-size : (a b : ℤ) → mag (a +ℤ b) ≤ suc (mag a + mag b)
sum-size (pos a) (pos b) = omega arith
sum-size (pos a) (negsuc b) = omega (arith, sub-size a b)
sum-size (negsuc a) (pos b) = omega (arith, sub-size b a)
sum-size (negsuc a) (negsuc b) = omega arith

-- ---- rounding: r is what `nearest` answers for the size of z

module _ (z : ℤ) (small : mag z ≤ 16777216) where
  module _ (test : lt_z (kept w32 z) (pos 0) ≡ true) (r : ℕ)
      (near : (r ≡ nearest (nat_abs (kept w32 (negated z)))) × (r ≤ nat_abs (kept w32 (negated z)))) where
    size : nat_abs (kept w32 (negated z)) ≡ suc (mag z)
    size = negated_size z (omega arith) test

    pub below-fits : SFits w32 (pos r)
    below-fits = fits-32 (pos r) (omega (arith, size))

    pub minus-fits : SFits w32 (negated (pos r))
    minus-fits = negated_fits (pos r) (omega (arith, size))

    pub round-below : kept w32 (negated (pos r)) ≡ rounded z
    unfolding rounded
    round-below =
        kept-negated (pos r) (omega (arith, size)) ∙ ap (λ (k : ℕ). neg_ℤ (pos k)) (near.0 ∙ ap nearest size)
        ∙ ap rounded (sym (is_negative z (omega arith) test))

  module _ (test : lt_z (kept w32 z) (pos 0) ≡ false) (r : ℕ) (near : (r ≡ nearest (nat_abs (kept w32 z))) × (r ≤ nat_abs (kept w32 z))) where
    pub above-fits : SFits w32 (pos r)
    above-fits = fits-32 (pos r) (omega (arith, natural-size z (omega arith) test))

    pub round-above : to_z w32 r ≡ rounded z
    unfolding rounded
    round-above =
        to_z_pos w32 above-fits.sfits ∙ ap pos (near.0 ∙ ap nearest (natural-size z (omega arith) test))
        ∙ ap rounded (sym (is-natural z (omega arith) test))
