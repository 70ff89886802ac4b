-- Signed numbers of 32 bits in decimal, by their sign and their size. Assumes nothing.
use Prim.Native.Nat.{ℕ, suc, ◌+◌, ◌≤◌}
use native.Mathlib.Omega.{arith}
use mathlib.Core.Bool.{true, false}
use mathlib.Core.List.{List, [], ◌∷◌}
use mathlib.Core.Path.{◌≡◌, sym, ap, ◌∙◌}
use lib.IntN.{ℤ, pos, nat_abs}
use lib.ListN.{length}
use lib.Signed.{mag, lt_z}
use mir.Syntax.{w32}
use mir.Val.{SFits}
use Rattle.numbers.proofs.Signs.{kept, negated, negated_fits, is_negative, negated_size, is-natural, natural-size}
use Rattle.text.specs.Number.{decimal, signed_decimal}
use Rattle.print_number.specs.Put.{Put, length_size, max_tenths}
use Rattle.print_number.proofs.Writing.{put-append, put_same}
use Rattle.print_number.proofs.Decimal.{digits}

-- ---- a negative number

pub minus-fits : (z : ℤ) → mag z ≤ max_tenths → SFits w32 (negated z)
minus-fits z small = negated_fits z (omega arith)

module _ (z : ℤ) (small : mag z ≤ max_tenths) (test : lt_z (kept w32 z) (pos 0) ≡ true) where
  size-negated : nat_abs (kept w32 (negated z)) ≡ suc (mag z)
  size-negated = negated_size z (omega arith) test

  digits-negated : length (decimal (nat_abs (kept w32 (negated z)))) ≤ 7
  digits-negated = rw size-negated (digits 6 (suc (mag z)) (omega arith))

  pub room-negated : (at mid m k : ℕ) → at + length_size ≤ m → k ≡ m → mid ≡ at + 1
      → mid + length (decimal (nat_abs (kept w32 (negated z)))) ≤ k
  room-negated at mid m k h e d = omega (arith, digits-negated)

  module _ (at mid end : ℕ) (o₁ o₂ o₃ : List ℕ) (p : Put (45 ∷ []) at mid o₁ o₂)
      (q : Put (decimal (nat_abs (kept w32 (negated z)))) mid end o₂ o₃) where
    pub written-negative : Put (signed_decimal z) at end o₁ o₃
    unfolding signed_decimal
    written-negative =
        put_same (ap (λ (n : ℕ). 45 ∷ decimal n) size-negated ∙ ap signed_decimal (sym (is_negative z (omega arith) test))) (put-append p q)

    pub negative-end : end ≤ at + length_size
    negative-end = omega (arith, digits-negated)

-- ---- a natural number

module _ (z : ℤ) (small : mag z ≤ max_tenths) (test : lt_z (kept w32 z) (pos 0) ≡ false) where
  size-natural : nat_abs (kept w32 z) ≡ mag z
  size-natural = natural-size z (omega arith) test

  digits-natural : length (decimal (nat_abs (kept w32 z))) ≤ 7
  digits-natural = rw size-natural (digits 6 (mag z) (omega arith))

  pub room-natural : (at m : ℕ) → at + length_size ≤ m → at + length (decimal (nat_abs (kept w32 z))) ≤ m
  room-natural at m h = omega (arith, digits-natural)

  module _ (at end : ℕ) (o₁ o₂ : List ℕ) (p : Put (decimal (nat_abs (kept w32 z))) at end o₁ o₂) where
    pub written-natural : Put (signed_decimal z) at end o₁ o₂
    unfolding signed_decimal
    written-natural = put_same (ap decimal size-natural ∙ ap signed_decimal (sym (is-natural z (omega arith) test))) p

    pub natural-end : end ≤ at + length_size
    natural-end = omega (arith, digits-natural)
