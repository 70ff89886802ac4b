-- Words of names are equal exactly if the names are, and the word of no name is 0. Assumes nothing.
use Prim.Native.Nat.{ℕ, zero, suc, ◌+◌, ◌*◌, ◌<◌}
use native.Mathlib.Nat.{le_of_suc-le-suc, not-suc-le-zero}
use native.Mathlib.Numerals.{add-one}
use native.Mathlib.Omega.{arith}
use mathlib.Core.Bool.{Bool, true, false, ◌&&◌, ◌||◌, or-true, or-false, or_assoc}
use mathlib.Core.List.{List, [], ◌∷◌, map}
use mathlib.Core.Path.{◌≡◌, refl, sym, ap, ap₂, ◌∙◌}
use lib.Dec.{leb, ltb, eqb}
use lib.ListN.{length, get_or, take, drop, replicate, drop_of_length-le}
use lib.Pow.{are_bytes}
use borrow.Author.Tests.{leb-true, ltb-true, lt-ltb, eqb-true, eq-eqb, ne_eqb}
use Rattle.laws.proofs.Bools.{true-false, by-test, bool_false, bool-ext, and_parts, and_both}
use Rattle.theory_words.specs.Name.{name_size, blank, name_byte, valid_name, unnamed, allowed_name, same_name, has_name}
use Rattle.theory_words.proofs.Filled.{Filled, filled-end, filled_more, valid-name}
use Rattle.theory_words.proofs.SameName.{same-name, same-name-refl, valid-named}
use Rattle.names.specs.Word.{word_of, has_word}

-- ---- words

-- the word of what is left of a name is its next byte and the word of the rest, also past the end
word_at : (l : List ℕ) (k : ℕ) → word_of (drop k l) ≡ get_or l k 0 + 256 * word_of (drop (suc k) l)
unfolding word_of
word_at [] zero = refl
word_at [] (suc k) = refl
word_at (b ∷ l) zero = refl
word_at (b ∷ l) (suc k) = word_at l k

-- the word of a name in two halves
pub word-halves : (l : List ℕ) (a b : ℕ) → length l ≡ name_size
    → a ≡ word_of (get_or l 0 0 ∷ get_or l 1 0 ∷ get_or l 2 0 ∷ get_or l 3 0 ∷ [])
    → b ≡ word_of (get_or l 4 0 ∷ get_or l 5 0 ∷ get_or l 6 0 ∷ get_or l 7 0 ∷ [])
    → a + 0x100000000 * b ≡ word_of l
unfolding word_of
word-halves l a b n e f =
    let z : word_of (drop 8 l) ≡ 0 = ap word_of (drop_of_length-le l {i = 8} (omega arith)) in
    omega (arith, z, word_at l 0, word_at l 1, word_at l 2, word_at l 3, word_at l 4, word_at l 5, word_at l 6, word_at l 7)

-- words of as many bytes are equal only if the bytes are
word_same : (l m : List ℕ) → length l ≡ length m → are_bytes l ≡ true → are_bytes m ≡ true → word_of l ≡ word_of m → l ≡ m
unfolding word_of
word_same [] [] n x y e = refl
word_same [] (b ∷ m) n x y e = absurd (omega arith)
word_same (a ∷ l) [] n x y e = absurd (omega arith)
word_same (a ∷ l) (b ∷ m) n x y e =
    let (p, q) = and_parts (ltb a 256) (are_bytes l) x in
    let (r, s) = and_parts (ltb b 256) (are_bytes m) y in
    let low = ltb-true a 256 p in
    let lower = ltb-true b 256 r in
    ap₂ ◌∷◌ (omega arith) (word_same l m (omega arith) q s (omega arith))

word-zero : (l : List ℕ) → word_of l ≡ 0 → unnamed l ≡ true
unfolding word_of unnamed
word-zero [] e = refl
word-zero (b ∷ l) e = and_both (eqb b 0) (unnamed l) (eq-eqb b 0 (omega arith)) (word-zero l (omega arith))

zero_word : (l : List ℕ) → unnamed l ≡ true → word_of l ≡ 0
unfolding word_of unnamed
zero_word [] e = refl
zero_word (b ∷ l) e =
    let (p, q) = and_parts (eqb b 0) (unnamed l) e in
    omega (arith, eqb-true b 0 p, zero_word l q)

-- the word is 0 exactly if there is no name
pub word-unnamed : (name : List ℕ) → eqb (word_of name) 0 ≡ unnamed name
word-unnamed name = bool-ext (eqb (word_of name) 0) (unnamed name)
    (λ t. word-zero name (eqb-true (word_of name) 0 t))
    (λ t. eq-eqb (word_of name) 0 (zero_word name t))

module _ (name : List ℕ) (w : ℕ) (e : w ≡ word_of name) where
  -- what the test of a name needs: its word says whether there is one
  pub allowed-unnamed : w ≡ 0 → eqb w 0 ≡ allowed_name name
  allowed-unnamed z = eq-eqb w 0 z ∙ sym (ap (λ (b : Bool). b || valid_name name) (zero-unnamed z))
    where
      zero-unnamed : w ≡ 0 → unnamed name ≡ true
      zero-unnamed z = word-zero name (sym e ∙ z)

  pub allowed-named : (b : Bool) → (w ≡ 0 → ⊥) → b ≡ valid_name name → b ≡ allowed_name name
  allowed-named b n v =
      let f : unnamed name ≡ false = bool_false (unnamed name) (λ t. n (e ∙ zero_word name t)) in
      v ∙ sym (ap (λ (x : Bool). x || valid_name name) f)

-- ---- names

byte_small : (b : ℕ) → name_byte b ≡ true → b < 256
unfolding name_byte
byte_small b e = by-test (leb 0x41 b && leb b 0x5A)
    (λ t. omega (arith, leb-true b 0x5A (and_parts (leb 0x41 b) (leb b 0x5A) t).1))
    (λ f. let q : (leb 0x30 b && leb b 0x39) ≡ true = rw f at e in
    omega (arith, leb-true b 0x39 (and_parts (leb 0x30 b) (leb b 0x39) q).1))

blanks-bytes : (n : ℕ) → are_bytes (replicate n blank) ≡ true
blanks-bytes zero = refl
blanks-bytes (suc n) = blanks-bytes n

filled-bytes : {l : List ℕ} → Filled l → are_bytes l ≡ true
filled-bytes (filled-end {l} e) = rw e (blanks-bytes (length l))
filled-bytes (filled_more {b} {l} t f) = and_both (ltb b 256) (are_bytes l) (lt-ltb b 256 (byte_small b t)) (filled-bytes f)

zeros-bytes : (l : List ℕ) → unnamed l ≡ true → are_bytes l ≡ true
unfolding unnamed
zeros-bytes [] e = refl
zeros-bytes (b ∷ l) e =
    let (p, q) = and_parts (eqb b 0) (unnamed l) e in
    and_both (ltb b 256) (are_bytes l) (lt-ltb b 256 (omega (arith, eqb-true b 0 p))) (zeros-bytes l q)

-- what a rule may have for a name is of bytes
pub allowed-bytes : (name : List ℕ) → allowed_name name ≡ true → are_bytes name ≡ true
allowed-bytes name h = by-test (unnamed name) (λ t. zeros-bytes name t) (λ f. filled-bytes (valid-name name (rw f at h)).form)

-- a valid name and one that a rule may have: equal words are equal names
words-equal : (a b : List ℕ) → valid_name a ≡ true → allowed_name b ≡ true → word_of b ≡ word_of a → a ≡ b
words-equal a b v h e = by-test (unnamed b)
    (λ t. absurd (true-false (word-zero a (sym e ∙ zero_word b t)) (valid-named a v)))
    (λ f. let w : valid_name b ≡ true = rw f at h in
    let x = valid-name a v in
    let y = valid-name b w in
    word_same a b (x.size ∙ sym y.size) (filled-bytes x.form) (filled-bytes y.form) (sym e))

word-compared : (a b : List ℕ) → valid_name a ≡ true → allowed_name b ≡ true → eqb (word_of b) (word_of a) ≡ same_name a b
word-compared a b v h = bool-ext (eqb (word_of b) (word_of a)) (same_name a b)
    (λ t. ap (same_name a) (sym (words-equal a b v h (eqb-true (word_of b) (word_of a) t))) ∙ same-name-refl a)
    (λ t. eq-eqb (word_of b) (word_of a) (ap word_of (sym (same-name a b t))))

-- the word of a valid name is among the words of names exactly if the name is among them
pub words-compared : (name : List ℕ) (names : List (List ℕ)) → valid_name name ≡ true
    → ((k : ℕ) → allowed_name (get_or names k []) ≡ true) → has_word (word_of name) (map word_of names) ≡ has_name name names
unfolding has_word has_name
words-compared name [] v h = refl
words-compared name (other ∷ names) v h =
    ap₂ ◌||◌ (word-compared name other v (h 0)) (words-compared name names v (λ k. h (suc k)))

-- ---- a row of words

-- the loop over a row: b says whether w is among the first i words
module _ (w i : ℕ) (l : List ℕ) (b : Bool) (e : b ≡ has_word w (take i l)) (h : i < length l) where
  one_more : (l : List ℕ) (i : ℕ) → i < length l → has_word w (take (suc i) l) ≡ (has_word w (take i l) || eqb (get_or l i 0) w)
  unfolding has_word
  one_more [] i h = absurd (not-suc-le-zero h)
  one_more (v ∷ l) zero h = or-false (eqb v w)
  one_more (v ∷ l) (suc i) h =
      ap (λ (x : Bool). eqb v w || x) (one_more l i (le_of_suc-le-suc h))
      ∙ sym (or_assoc (eqb v w) (has_word w (take i l)) (eqb (get_or l i 0) w))

  word_more : has_word w (take (i + 1) l) ≡ (has_word w (take i l) || eqb (get_or l i 0) w)
  word_more = rw add-one (one_more l i h)

  pub word-found : get_or l i 0 ≡ w → true ≡ has_word w (take (i + 1) l)
  word-found t = sym (word_more ∙ rw (eq-eqb (get_or l i 0) w t) (or-true (has_word w (take i l))))

  pub word-not : (get_or l i 0 ≡ w → ⊥) → b ≡ has_word w (take (i + 1) l)
  word-not t = e ∙ sym (word_more ∙ rw (ne_eqb (get_or l i 0) w t) (or-false (has_word w (take i l))))
