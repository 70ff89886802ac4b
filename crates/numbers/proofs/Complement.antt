-- The signed number of 16 bits, read and written: what the machine computes is what the specification says. Assumes nothing.
use Prim.Native.Nat.{ℕ, zero, suc, ◌-◌, ◌%◌, ◌≤◌, ◌<◌}
use native.Mathlib.Nat.{zero-add}
use native.Mathlib.Omega.{arith}
use mathlib.Core.Bool.{true, false}
use mathlib.Core.Path.{◌≡◌, refl, sym, ap, ◌∙◌, subst}
use lib.Dec.{T}
use lib.IntN.{ℤ, pos, negsuc, nat_abs, ◌-ℤ◌}
use lib.Signed.{lt_z, non_neg, mag}
use borrow.Author.Tests.{lt-ltb, le-ltb}
use mir.Syntax.{w16}
use mir.Val.{Fits, SFits, to_z, of_z}
use mir.Facts.{to_z_pos, to_z-of_z}
use Rattle.numbers.specs.Numbers.{signed_in, unsigned_of}
use Rattle.numbers.proofs.Signs.{kept, negative, natural}

-- ---- reading

-- minus one minus m
below-minus : (m : ℕ) → negsuc 0 -ℤ pos m ≡ negsuc m
below-minus zero = refl
below-minus (suc m) = rw zero-add

machine-negative : (m : ℕ) → m < 32768 → negsuc 0 -ℤ to_z w16 m ≡ negsuc m
machine-negative m h = ap (λ (z : ℤ). negsuc 0 -ℤ z) (to_z_pos w16 h) ∙ below-minus m

module _ (n : ℕ) where
  pub signed-small : n < 32768 → to_z w16 n ≡ signed_in n
  unfolding signed_in
  signed-small h = rw (lt-ltb n 32768 h)

  module _ (h : 32768 ≤ n) where
    pub negative_fits : SFits w16 (negsuc 0 -ℤ to_z w16 (65535 - n))
    negative_fits =
        let l : 65535 - n < 32768 = omega arith in
        subst (SFits w16) (sym (machine-negative (65535 - n) l)) (record { sfits = l })

    pub signed-large : n ≤ 65535 → to_z w16 (of_z w16 (negsuc 0 -ℤ to_z w16 (65535 - n))) ≡ signed_in n
    unfolding signed_in
    signed-large k =
        let l : 65535 - n < 32768 = omega arith in
        let e : 65536 - n ≡ suc (65535 - n) = omega arith in
        to_z-of_z negative_fits ∙ machine-negative (65535 - n) l ∙ rw (le-ltb n 32768 h, e)

-- ---- writing

-- minus one minus a signed number, as the machine computes it
abbrev flip : ℤ → ℤ
flip z = negsuc 0 -ℤ kept w16 z

minus-below : (n : ℕ) → negsuc 0 -ℤ negsuc n ≡ pos n
minus-below n =
    let e : suc n - 1 ≡ n = omega arith in
    rw (le-ltb (suc n) 1 (omega arith), e)

flip_is : (n : ℕ) → SFits w16 (negsuc n) → flip (negsuc n) ≡ pos n
flip_is n f = ap (λ (z : ℤ). negsuc 0 -ℤ z) (to_z-of_z f) ∙ minus-below n

kept-is : (n : ℕ) → SFits w16 (negsuc n) → kept w16 (flip (negsuc n)) ≡ pos n
kept-is n f = ap (kept w16) (flip_is n f) ∙ to_z_pos w16 f.sfits

pub flip-fits : (z : ℤ) → SFits w16 z → lt_z (kept w16 z) (pos 0) ≡ true → SFits w16 (flip z)
flip-fits = negative w16 (λ z. SFits w16 (flip z)) (λ n f. rw (flip_is n f) (record { sfits = f.sfits }))

pub flip-casts : (z : ℤ) → SFits w16 z → lt_z (kept w16 z) (pos 0) ≡ true
    → T (non_neg (kept w16 (flip z))) × Fits w16 (nat_abs (kept w16 (flip z)))
flip-casts = negative w16 (λ z. T (non_neg (kept w16 (flip z))) × Fits w16 (nat_abs (kept w16 (flip z))))
    (λ n f. rw (kept-is n f) (tt, record { fits = omega arith }))

pub flip-below : (z : ℤ) → SFits w16 z → lt_z (kept w16 z) (pos 0) ≡ true → nat_abs (kept w16 (flip z)) < 32768
flip-below = negative w16 (λ z. nat_abs (kept w16 (flip z)) < 32768) (λ n f. rw (kept-is n f) f.sfits)

pub unsigned_negative : (z : ℤ) → SFits w16 z → lt_z (kept w16 z) (pos 0) ≡ true → 65535 - nat_abs (kept w16 (flip z)) ≡ unsigned_of z
unfolding unsigned_of
unsigned_negative = negative w16 (λ z. 65535 - nat_abs (kept w16 (flip z)) ≡ unsigned_of z) (λ n f. rw (kept-is n f) (omega arith))

pub natural_casts : (z : ℤ) → SFits w16 z → lt_z (kept w16 z) (pos 0) ≡ false → T (non_neg (kept w16 z)) × Fits w16 (nat_abs (kept w16 z))
natural_casts =
    natural w16 (λ z. T (non_neg (kept w16 z)) × Fits w16 (nat_abs (kept w16 z)))
    (λ n f. rw (to_z_pos w16 f.sfits) (tt, record { fits = omega arith }))

pub unsigned-natural : (z : ℤ) → SFits w16 z → lt_z (kept w16 z) (pos 0) ≡ false → nat_abs (kept w16 z) ≡ unsigned_of z
unfolding unsigned_of
unsigned-natural = natural w16 (λ z. nat_abs (kept w16 z) ≡ unsigned_of z) (λ n f. rw (to_z_pos w16 f.sfits) (omega arith))

-- ---- written and read

pub signed_round : (z : ℤ) → mag z < 32768 → signed_in (unsigned_of z) ≡ z
unfolding signed_in unsigned_of
signed_round (pos n) h =
    let e : n % 65536 ≡ n = omega arith in
    rw (e, lt-ltb n 32768 h)
signed_round (negsuc n) h =
    let e : 65535 - n % 65536 ≡ 65535 - n = omega arith in
    let d : 65536 - (65535 - n) ≡ suc n = omega arith in
    rw (e, le-ltb (65535 - n) 32768 (omega arith), d)
