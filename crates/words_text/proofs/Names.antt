-- The names in a row of bytes, and the texts of the rules. Assumes nothing.
use Prim.Native.Nat.{ℕ, suc, ◌+◌, ◌*◌, ◌-◌, ◌≤◌, ◌<◌}
use Rattle.std.proofs.Common.{Option, Some, None, unwrap_or, position, nat_lt, ◌==◌}
use Rattle.std.specs.List.{list_all, position_or_len}
use mathlib.Core.Bool.{Bool, true, false, not, cond, ◌&&◌}
use mathlib.Core.List.{List, [], ◌∷◌}
use mathlib.Core.Path.{◌≡◌, refl, sym, ap, ◌∙◌}
use native.Mathlib.Omega.{arith}
use lib.Dec.{eqb}
use lib.ListN.{length, take, drop, length-take, length-drop, drop_of_length-le}
use lib.Seq.{take-take}
use borrow.Author.Tests.{ltb-false}
use Rattle.sizes.specs.Sizes.{max_rules}
use Rattle.theory_words.specs.Name.{name_size, blank, unnamed, unfilled, number_text, rule_text}
use Rattle.theory_words.proofs.Filled.{unfilled-front}
use Rattle.print_number.specs.Put.{Put}
use Rattle.print_number.proofs.Writing.{put_same}
use Rattle.words_text.specs.Names.{names_size, name_in, text_in}

-- ---- zeros only

all-zeros : (l : List ℕ) → list_all (λ b. b == 0) l ≡ unnamed l
unfolding unnamed
all-zeros [] = refl
all-zeros (b ∷ l) = ap (λ (t : Bool). eqb b 0 && t) (all-zeros l)

-- ---- up to the first blank

-- the place of the first blank is how long the name is without its filling
first-blank : (l : List ℕ) → position_or_len (λ b. b == blank) l ≡ length (unfilled l)
unfolding unfilled
first-blank [] = refl
first-blank (b ∷ l) = go (eqb b blank) (first-blank l)
  where
    go : (t : Bool) → position_or_len (λ b. b == blank) l ≡ length (unfilled l)
        → cond (not t) (1 + position_or_len (λ b. b == blank) l) 0 ≡ length (cond t [] (b ∷ unfilled l))
    go true e = refl
    go false e = omega arith

unfilled-short : (l : List ℕ) → length (unfilled l) ≤ length l
unfolding unfilled
unfilled-short [] = omega arith
unfilled-short (b ∷ l) = go (eqb b blank) (unfilled-short l)
  where
    go : (t : Bool) → length (unfilled l) ≤ length l → length (cond t [] (b ∷ unfilled l)) ≤ suc (length l)
    go true h = omega arith
    go false h = omega arith

blank_found : (l : List ℕ) → unwrap_or (position (λ b. b == blank) l) (length l) ≡ length (unfilled l)
blank_found l = go (nat_lt (position_or_len (λ b. b == blank) l) (length l)) refl
  where
    go : (t : Bool) → nat_lt (position_or_len (λ b. b == blank) l) (length l) ≡ t
        → unwrap_or (cond t (Some (position_or_len (λ b. b == blank) l)) None) (length l) ≡ length (unfilled l)
    go true h = first-blank l
    go false h = omega (arith, first-blank l, unfilled-short l, ltb-false (position_or_len (λ b. b == blank) l) (length l) h)

-- the name that begins at an offset, as `length_at` takes it
module _ (bytes : List ℕ) (at : ℕ) (room : at + name_size ≤ length bytes) (r : Option ℕ)
    (found : r ≡ position (λ b. b == blank) (take (at + name_size - at) (drop at bytes))) where
  pub length-here : (unwrap_or r name_size ≡ length (unfilled (take name_size (drop at bytes)))) × (unwrap_or r name_size ≤ name_size)
  length-here =
      let n : at + name_size - at ≡ name_size = omega arith in
      let here = take name_size (drop at bytes) in
      let long : length here ≡ name_size = simp (length-take, length-drop) (omega arith) in
      let is : unwrap_or r name_size ≡ length (unfilled here) =
      ap (λ (o : Option ℕ). unwrap_or o name_size)
      (found ∙ ap (λ (k : ℕ). position (λ b. b == blank) (take k (drop at bytes))) n)
      ∙ ap (unwrap_or (position (λ b. b == blank) here)) (sym long)
      ∙ blank_found here in
      (is, omega (arith, is, unfilled-short here))

-- a name without a blank from its byte i on, which is past its end, has as many bytes as were passed
module _ (bytes : List ℕ) (at : ℕ) (room : at + name_size ≤ length bytes) where
  abbrev name_here : List ℕ
  name_here = take name_size (drop at bytes)

  pub filled_none : (i : ℕ) → length (unfilled name_here) ≡ i + length (unfilled (drop i name_here)) → name_size ≤ i
      → i ≡ length (unfilled name_here)
  unfolding unfilled
  filled_none i so_far h =
      let long : length name_here ≡ name_size = simp (length-take, length-drop) (omega arith) in
      let none : length (unfilled (drop i name_here)) ≡ 0 = rw (drop_of_length-le name_here {i = i} (omega (arith, long))) in
      omega arith

-- ---- the text of rule r, by the test of `is_unnamed`

module _ (names : List ℕ) (r : ℕ) (b : Bool) (told : b ≡ unnamed (name_in names r)) where
  pub length-number : b ≡ true → 4 ≡ length (text_in names r)
  unfolding rule_text number_text
  length-number h = rw (← told, h)

  pub length-name : (n : ℕ) → b ≡ false → n ≡ length (unfilled (name_in names r)) → n ≡ length (text_in names r)
  unfolding rule_text
  length-name n h e = rw (← told, h) e

  pub room-number : (at m : ℕ) → b ≡ true → at + length (text_in names r) ≤ m → at + 4 ≤ m
  room-number at m h l = omega (arith, length-number h)

  pub rule-number : (at end : ℕ) (o₀ o₁ : List ℕ) → b ≡ true → Put (number_text r) at end o₀ o₁ → Put (text_in names r) at end o₀ o₁
  unfolding rule_text
  rule-number at end o₀ o₁ h p = rw (← told, h) p

  -- a rule with a name: the part of the row that `put_rule` hands on
  abbrev part : ℕ → List ℕ
  part n = take (name_size * r + n - name_size * r) (drop (name_size * r) names)

  module _ (named : b ≡ false) (n : ℕ) (size : (n ≡ length (unfilled (name_in names r))) × (n ≤ name_size)) where
    pub room-name : (at m : ℕ) → at + length (text_in names r) ≤ m → at + length (part n) ≤ m
    room-name at m l =
        omega (arith, length-name n named size.0, length-take (name_size * r + n - name_size * r) (drop (name_size * r) names))

    same : part n ≡ unfilled (name_in names r)
    unfolding name_in
    same =
        let e : name_size * r + n - name_size * r ≡ n = omega arith in
        ap (λ (k : ℕ). take k (drop (name_size * r) names)) e
        ∙ sym (take-take n name_size (drop (name_size * r) names) size.1)
        ∙ ap (λ (k : ℕ). take k (name_in names r)) size.0
        ∙ sym (unfilled-front (name_in names r))

    pub rule-name : (at end : ℕ) (o₀ o₁ : List ℕ) → Put (part n) at end o₀ o₁ → Put (text_in names r) at end o₀ o₁
    unfolding rule_text
    rule-name at end o₀ o₁ p = rw (← told, named) (put_same same p)

-- ---- the name of rule r in a row

module _ (names : List ℕ) (r : ℕ) where
  pub unnamed-all : list_all (λ b. b == 0) (take (name_size * r + name_size - name_size * r) (drop (name_size * r) names))
      ≡ unnamed (name_in names r)
  unfolding name_in
  unnamed-all =
      let n : name_size * r + name_size - name_size * r ≡ name_size = omega arith in
      all-zeros _ ∙ ap (λ (k : ℕ). unnamed (take k (drop (name_size * r) names))) n

  -- the row has all of it
  pub row_room : r < max_rules → length names ≡ names_size → name_size * r + name_size ≤ length names
  row_room low full = omega arith
