-- Whether the used numbers of a row are bytes: the first of its 64 numbers, as many as the count says. Assumes nothing.
use Prim.Native.Nat.{ℕ, ◌+◌, ◌≤◌, min}
use native.Mathlib.Decide.{dec_le}
use native.Mathlib.Omega.{arith}
use mathlib.Core.Bool.{Bool, true, ◌&&◌}
use mathlib.Core.List.{List, [], ◌∷◌}
use mathlib.Core.Logic.{dite}
use mathlib.Core.Path.{◌≡◌, refl, sym, ap, ◌∙◌}
use lib.ListN.{get_or, take, length-take}
use lib.Seq.{take-take, take_all}
use borrow.Author.Tests.{le-leb}
use Rattle.std.specs.List.{list_all}
use Rattle.sizes.specs.Sizes.{max_input}
use Rattle.grammar.specs.Valid.{all}
use Rattle.grammar.proofs.All.{all_more}
use Rattle.c_hand.specs.Hand.{is_byte, used_bytes}

-- the library's test of a list is the one of check 8
all-is : (l : List ℕ) → list_all is_byte l ≡ all is_byte l
unfolding all
all-is [] = refl
all-is (x ∷ l) = ap (λ (b : Bool). is_byte x && b) (all-is l)

module _ (h : List ℕ) where
  -- one more number is a byte
  pub count_next : (i : ℕ) → get_or h i 0 ≤ 255 → all is_byte (take i h) ≡ true → all is_byte (take (i + 1) h) ≡ true
  count_next i k t = all_more is_byte 0 h i t (le-leb (get_or h i 0) 255 k)

  -- the used numbers are the first of the row
  pub used-first : (n : ℕ) → take n (take max_input h) ≡ take (min n max_input) h
  used-first n = dite (dec_le n max_input) few many
    where
      few : n ≤ max_input → take n (take max_input h) ≡ take (min n max_input) h
      few k =
          let e : n ≡ min n max_input = omega arith in
          take-take n max_input h k ∙ ap (λ (x : ℕ). take x h) e

      many : (n ≤ max_input → ⊥) → take n (take max_input h) ≡ take (min n max_input) h
      many k =
          let e : max_input ≡ min n max_input = omega arith in
          take_all n (take max_input h) (omega (arith, length-take max_input h)) ∙ ap (λ (x : ℕ). take x h) e

  pub used-tested : (n m : ℕ) (r : Bool) → n ≡ get_or h max_input 0 → m ≡ min n max_input → r ≡ list_all is_byte (take m h) → r ≡ used_bytes h
  unfolding used_bytes
  used-tested n m r count first tested =
      tested ∙ all-is (take m h)
      ∙ ap (all is_byte) (ap (λ (x : ℕ). take x h) first ∙ sym (used-first n) ∙ ap (λ (x : ℕ). take x (take max_input h)) count)
