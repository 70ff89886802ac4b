-- What the code that checks a name needs. Assumes nothing.
use Prim.Native.Nat.{ℕ, suc, ◌+◌, ◌≤◌, ◌<◌}
use native.Mathlib.Numerals.{add-one}
use native.Mathlib.Omega.{arith}
use mathlib.Core.Bool.{Bool, true, false, not, cond, ◌&&◌, ◌||◌, and-true, and-false, or-false}
use mathlib.Core.List.{List, ◌∷◌}
use mathlib.Core.Path.{◌≡◌, refl, sym, ap, ◌∙◌}
use lib.Dec.{leb, eqb}
use lib.ListN.{length, get_or, take, drop, drop_of_length-le, length-drop}
use lib.Seq.{drop-cons}
use borrow.Author.Tests.{eqb-true, eq-eqb, ne_eqb, le-leb, lt-leb, not-true, not-false}
use Rattle.std.proofs.lemmas.List.{take_all}
use Rattle.laws.proofs.Bools.{by-test, bool_false}
use Rattle.theory_words.specs.Name.{name_size, blank, name_byte, filling, filled_up, valid_name}
use Rattle.theory_words.proofs.Filled.{name-byte}

-- ---- a byte

module _ (b : ℕ) where
  pub digit-range : b ≤ 0x39 → leb 0x30 b ≡ name_byte b
  unfolding name_byte
  digit-range h = sym (rw (lt-leb 0x41 b (omega arith), le-leb b 0x39 h) (and-true (leb 0x30 b)))

  pub capital-range : 0x39 < b → b ≤ 0x5A → leb 0x41 b ≡ name_byte b
  unfolding name_byte
  capital-range h k =
      sym (rw (le-leb b 0x5A k, lt-leb b 0x39 h, and-false (leb 0x30 b), or-false (leb 0x41 b && true)) (and-true (leb 0x41 b)))

  pub no-range : 0x5A < b → false ≡ name_byte b
  unfolding name_byte
  no-range h = sym (rw (lt-leb b 0x5A h, lt-leb b 0x39 (omega arith), and-false (leb 0x41 b)) (and-false (leb 0x30 b)))

  pub follows-blank : (ended : Bool) → b ≡ 0x20 → eqb b 0x20 ≡ (eqb b blank || (not ended && name_byte b))
  follows-blank ended e = rw (eq-eqb b 0x20 e)

  pub follows-byte : (ended r : Bool) → (b ≡ 0x20 → ⊥) → not ended ≡ true → r ≡ name_byte b
      → r ≡ (eqb b blank || (not ended && name_byte b))
  follows-byte ended r n t e = sym (rw (ne_eqb b 0x20 n, t) (sym e))

  pub follows-ended : (ended : Bool) → (b ≡ 0x20 → ⊥) → not ended ≡ false → not ended ≡ (eqb b blank || (not ended && name_byte b))
  follows-ended ended n t = sym (rw (ne_eqb b 0x20 n, t))

-- ---- the bytes after the first

-- the test of what is behind a byte of a name; `ended` says that this byte is a blank
abbrev pub rest_of : Bool → List ℕ → Bool
rest_of ended l = cond ended (filling l) (filled_up l)

-- a byte of a name is no blank
no-blank : (b : ℕ) → name_byte b ≡ true → eqb b blank ≡ true → ⊥
no-blank b t e = let n = name-byte b t in omega (arith, n.from0, eqb-true b blank e)

rest-cons : (ended : Bool) (b : ℕ) (l : List ℕ)
    → rest_of ended (b ∷ l) ≡ ((eqb b blank || (not ended && name_byte b)) && rest_of (eqb b blank) l)
unfolding filling filled_up
rest-cons ended b l = go ended (name_byte b) (eqb b blank) refl refl
  where
    go : (ended t e : Bool) → name_byte b ≡ t → eqb b blank ≡ e
        → rest_of ended (b ∷ l) ≡ ((eqb b blank || (not ended && name_byte b)) && rest_of (eqb b blank) l)
    go ended true true p q = absurd (no-blank b p q)
    go true true false p q = rw q
    go true false true p q = rw q
    go true false false p q = rw q
    go false true false p q = rw (p, q)
    go false false true p q = rw (p, q)
    go false false false p q = rw (p, q)

-- a read byte of what is left
rest_at : (ended : Bool) (l : List ℕ) (i : ℕ) → i < length l → rest_of ended (drop i l)
    ≡ ((eqb (get_or l i 0) blank || (not ended && name_byte (get_or l i 0))) && rest_of (eqb (get_or l i 0) blank) (drop (i + 1) l))
rest_at ended l i k = rw (drop-cons l i 0 k, add-one) (rest-cons ended (get_or l i 0) (drop (suc i) l))

module _ (name : List ℕ) where
  pub first-refused : length name ≡ name_size → (b : Bool) → b ≡ name_byte (get_or name 0 0) → not b ≡ true → false ≡ valid_name name
  unfolding valid_name
  first-refused size b e t = sym (rw (size, ← e, not-true b t))

  pub first_passes : length name ≡ name_size → (b : Bool) → b ≡ name_byte (get_or name 0 0) → not b ≡ false
      → valid_name name ≡ rest_of false (drop 1 name)
  unfolding valid_name
  first_passes size b e t =
      let n : name_byte (get_or name 0 0) ≡ true = sym e ∙ not-false b t in
      let f : eqb (get_or name 0 0) blank ≡ false = bool_false (eqb (get_or name 0 0) blank) (no-blank (get_or name 0 0) n) in
      let r : filled_up name ≡ rest_of false (drop 1 name) = rest_at false name 0 (omega arith) ∙ rw (n, f) in
      rw (size, n) r

  -- what is left are seven bytes
  pub seven-left : length name ≡ name_size → (b : Bool) → b ≡ name_byte (get_or name 0 0) → not b ≡ false
      → valid_name name ≡ rest_of false (take 7 (drop 1 name))
  seven-left size b e t = rw (take_all 7 (drop 1 name) (omega (arith, length-drop 1 name))) (first_passes size b e t)

  -- the loop over the bytes after the first, l
  module _ (l : List ℕ) (ended : Bool) (i : ℕ) (h : valid_name name ≡ rest_of ended (drop i l)) where
    module _ (k : i < length l) (b : Bool) (e : b ≡ (eqb (get_or l i 0) blank || (not ended && name_byte (get_or l i 0)))) where
      pub byte-refused : not b ≡ true → false ≡ valid_name name
      byte-refused t = sym (h ∙ rest_at ended l i k ∙ rw (← e, not-true b t))

      pub byte-passes : not b ≡ false → valid_name name ≡ rest_of (eqb (get_or l i 0) blank) (drop (i + 1) l)
      byte-passes t = h ∙ rest_at ended l i k ∙ rw (← e, not-false b t)

    pub name-read : length l ≤ i → true ≡ valid_name name
    unfolding filling filled_up
    name-read k = sym (h ∙ ap (rest_of ended) (drop_of_length-le l {i = i} k) ∙ by-test ended (λ t. rw t) (λ t. rw t))
