-- Digits, leaves and numbers of rules, byte by byte. Assumes nothing.
use Prim.Native.Nat.{ℕ, ◌+◌, ◌/◌, ◌%◌, ◌≤◌, ◌<◌}
use mathlib.Core.List.{List, [], ◌∷◌}
use mathlib.Core.Path.{◌≡◌}
use borrow.Author.Tests.{lt-ltb, le-ltb}
use Rattle.theory_words.specs.Name.{hex_digit, number_text}
use Rattle.theory_words.specs.Words.{leaf_sign, leaf_text}
use Rattle.print_number.specs.Put.{Put}
use Rattle.print_number.proofs.Writing.{put-append, put_same}

pub digit_low : (d : ℕ) → d < 10 → 0x30 + d ≡ hex_digit d
unfolding hex_digit
digit_low d h = rw (lt-ltb d 10 h)

pub digit-high : (d : ℕ) → 10 ≤ d → 0x37 + d ≡ hex_digit d
unfolding hex_digit
digit-high d h = rw (le-ltb d 10 h)

-- `=` and two digits
module _ (m n a b c d at x y z : ℕ) (o₀ o₁ o₂ o₃ : List ℕ) (e : n ≡ m) (f : a ≡ hex_digit (n / 16)) (g : b ≡ hex_digit (n % 16)) where
  pub leaf-put : Put (leaf_sign ∷ []) at x o₀ o₁ → Put (a ∷ []) x y o₁ o₂ → Put (b ∷ []) y z o₂ o₃ → Put (leaf_text m) at z o₀ o₃
  unfolding leaf_text
  leaf-put p q r = put_same (cc) (put-append p (put-append q r))

-- `#` and three digits
module _ (r a b c at x y z t : ℕ) (o₀ o₁ o₂ o₃ o₄ : List ℕ) (f : a ≡ hex_digit (r / 100)) (g : b ≡ hex_digit (r / 10 % 10))
    (h : c ≡ hex_digit (r % 10)) where
  pub number_put : Put (0x23 ∷ []) at x o₀ o₁ → Put (a ∷ []) x y o₁ o₂ → Put (b ∷ []) y z o₂ o₃ → Put (c ∷ []) z t o₃ o₄
      → Put (number_text r) at t o₀ o₄
  unfolding number_text
  number_put p q s u = put_same (cc) (put-append p (put-append q (put-append s u)))
