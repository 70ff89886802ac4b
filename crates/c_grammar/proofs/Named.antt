-- The names of a row: check 8 says the same of a name read from a row as of the row's own numbers, since a number that is no byte is read
-- as 255, which is in no valid name. Assumes nothing.
use Prim.Native.Nat.{ℕ, zero, suc, ◌+◌, ◌≤◌, ◌<◌}
use native.Mathlib.Decide.{dec_le}
use native.Mathlib.Omega.{arith}
use mathlib.Core.Bool.{Bool, true, cond, ◌&&◌, ◌||◌}
use mathlib.Core.List.{List, [], ◌∷◌, map}
use mathlib.Core.Logic.{dite}
use mathlib.Core.Path.{◌≡◌, refl, sym, ap, ap₂, ◌∙◌}
use lib.Dec.{ltb, eqb}
use lib.ListN.{get_or, length-map, get_or-map}
use lib.Pow.{are_bytes}
use borrow.Author.Tests.{ltb-true, ne_eqb}
use Rattle.laws.proofs.Bools.{and_parts}
use Rattle.theory_words.specs.Name.{name_size, blank, name_byte, filling, filled_up, valid_name, unnamed, allowed_name}
use Rattle.names.proofs.Valid.{no-range}
use Rattle.names.proofs.Compared.{allowed-bytes}
use Rattle.grammar.specs.declared.Rule.{Rule}
use Rattle.grammar.specs.Valid.{all, valid_rule}
use Rattle.grammar.proofs.Bounds.{rule-parts}
use Rattle.numbers.specs.Numbers.{byte_in}
use Rattle.c_grammar.specs.Flat.{name_at, records_from, row_name, row_rule}
use Rattle.c_grammar.specs.Valid.{name_numbers}

-- ---- numbers read as bytes

-- a byte is read as it is
byte-same : (P : ℕ → Bool) → ((n : ℕ) → 255 ≤ n → P n ≡ P 255) → (n : ℕ) → P (byte_in n) ≡ P n
byte-same P large n = dite (dec_le n 255)
    (λ h. let e : byte_in n ≡ n = omega arith in ap P e)
    (λ h. let e : byte_in n ≡ 255 = omega arith in ap P e ∙ sym (large n (omega arith)))

-- a test for one byte below 255
eqb_same : (b n : ℕ) → b < 255 → eqb (byte_in n) b ≡ eqb n b
eqb_same b n h = byte-same (λ m. eqb m b) (λ m k. ne_eqb m b (λ e. omega arith) ∙ sym (ne_eqb 255 b (λ e. omega arith))) n

name-byte-same : (n : ℕ) → name_byte (byte_in n) ≡ name_byte n
name-byte-same n = byte-same name_byte (λ m k. sym (no-range m (omega arith)) ∙ no-range 255 (omega arith)) n

filling-same : (l : List ℕ) → filling (map byte_in l) ≡ filling l
unfolding filling
filling-same [] = refl
filling-same (n ∷ l) = ap₂ ◌&&◌ (eqb_same blank n (omega arith)) (filling-same l)

filled-up-same : (l : List ℕ) → filled_up (map byte_in l) ≡ filled_up l
unfolding filled_up
filled-up-same [] = refl
filled-up-same (n ∷ l) = λ i. cond (name-byte-same n i) (filled-up-same l i) (filling-same (n ∷ l) i)

unnamed-same : (l : List ℕ) → unnamed (map byte_in l) ≡ unnamed l
unfolding unnamed
unnamed-same [] = refl
unnamed-same (n ∷ l) = ap₂ ◌&&◌ (eqb_same 0 n (omega arith)) (unnamed-same l)

valid-name-same : (l : List ℕ) → valid_name (map byte_in l) ≡ valid_name l
unfolding valid_name
valid-name-same l =
    let first : name_byte (get_or (map byte_in l) 0 0) ≡ name_byte (get_or l 0 0) =
    ap name_byte (get_or-map byte_in l 0 0) ∙ name-byte-same (get_or l 0 0) in
    λ i. eqb (length-map l byte_in i) name_size && first i && filled-up-same l i

allowed_same : (l : List ℕ) → allowed_name (map byte_in l) ≡ allowed_name l
allowed_same l = ap₂ ◌||◌ (unnamed-same l) (valid-name-same l)

-- bytes are read as they are
bytes-kept : (l : List ℕ) → are_bytes l ≡ true → map byte_in l ≡ l
bytes-kept [] h = refl
bytes-kept (b ∷ l) h =
    let (p, q) = and_parts (ltb b 256) (are_bytes l) h in
    ap₂ ◌∷◌ (omega (arith, ltb-true b 256 p)) (bytes-kept l q)

-- ---- names of a row

-- reading records and changing each
pub records-map : {A B : Type 0} (read : ℕ → A) (change : A → B) (w at n : ℕ)
    → map change (records_from read w at n) ≡ records_from (λ k. change (read k)) w at n
unfolding records_from
records-map read change w at zero = refl
records-map {B} read change w at (suc n) = ap (λ (l : List B). change (read at) ∷ l) (records-map read change w (at + w) n)

module _ (f : List ℕ) where
  name-read : (at : ℕ) → row_name f (at + name_at) ≡ map byte_in (name_numbers f at)
  unfolding row_name name_numbers
  name-read at = sym (records-map (λ k. get_or f k 0) byte_in 1 (at + name_at) name_size)

  pub name-judged : (at : ℕ) → allowed_name (row_name f (at + name_at)) ≡ allowed_name (name_numbers f at)
  name-judged at = ap allowed_name (name-read at) ∙ allowed_same (name_numbers f at)

  -- the name of a valid rule is read as it is
  name-kept : (at : ℕ) → allowed_name (row_name f (at + name_at)) ≡ true → row_name f (at + name_at) ≡ name_numbers f at
  name-kept at v = name-read at ∙ bytes-kept (name_numbers f at) (allowed-bytes (name_numbers f at) (sym (name-judged at) ∙ v))

  -- so are the names of valid rules
  pub names-read : (w n at : ℕ) → all valid_rule (records_from (row_rule f) w at n) ≡ true
      → map (λ (r : Rule). r.name) (records_from (row_rule f) w at n) ≡ records_from (name_numbers f) w at n
  unfolding all records_from row_rule
  names-read w zero at v = refl
  names-read w (suc n) at v =
      let (p, q) = and_parts (valid_rule (row_rule f at)) (all valid_rule (records_from (row_rule f) w (at + w) n)) v in
      ap₂ ◌∷◌ (name-kept at (rule-parts (row_rule f at) p).4) (names-read w n (at + w) q)
