-- A row of 16-bit numbers is read as a grammar that fits its declared types. Assumes nothing.
use Prim.Native.Nat.{ℕ, zero, suc, ◌+◌, ◌-◌, ◌<◌}
use native.Mathlib.Decide.{ℕ_discrete, dec_le}
use native.Mathlib.Omega.{arith}
use mathlib.Core.Bool.{Bool, true, false, cond}
use mathlib.Core.List.{List}
use mathlib.Core.Logic.{dite}
use mathlib.Core.Path.{◌≡◌, refl, ap}
use lib.Dec.{ltb}
use lib.IntN.{pos, neg_ℤ}
use lib.ListN.{length, get_or}
use lib.Signed.{mag}
use borrow.Author.Tests.{ltb-true, ltb-false, ne_eqb, le-leb, lt-leb}
use Rattle.sizes.specs.Sizes.{max_rules, max_places}
use Rattle.theory_words.specs.Name.{name_size}
use Rattle.grammar.specs.declared.Place.{Place}
use Rattle.grammar.specs.Zero.{zero_place, no_rule}
use Rattle.numbers.specs.Numbers.{signed_in}
use Rattle.c_grammar.specs.Flat.{name_at, rule_numbers, records_from, row_symbol, row_place, row_places, row_byte, row_name}
use Rattle.c_grammar.specs.Flat.{row_rule, row_rules, grammar_in}
use Rattle.c_grammar.specs.Fits.{SymbolBytes, DeclaredRule, DeclaredGrammar}

-- ---- records

module _ {A : Type 0} (read : ℕ → A) (w : ℕ) where
  records-size : (n at : ℕ) → length (records_from read w at n) ≡ n
  unfolding records_from
  records-size zero at = refl
  records-size (suc n) at = ap suc (records-size n (at + w))

  -- what holds of each record read holds of each in the list
  records-all : (P : A → Type 0) (d : A) → ((at : ℕ) → P (read at)) → (n at k : ℕ) → k < n → P (get_or (records_from read w at n) k d)
  unfolding records_from
  records-all P d each zero at k h = absurd (omega arith)
  records-all P d each (suc n) at zero h = each at
  records-all P d each (suc n) at (suc k) h = records-all P d each n (at + w) k (omega arith)

-- ---- numbers and symbols

negative-within : (n m : ℕ) → n ≡ suc m → m < 32768 → mag (neg_ℤ (pos n)) < 32768
negative-within n m e h = rw e h

signed-within : (n : ℕ) → n < 65536 → mag (signed_in n) < 32768
unfolding signed_in
signed-within n h = go (ltb n 32768) refl
  where
    go : (b : Bool) → ltb n 32768 ≡ b → mag (cond b (pos n) (neg_ℤ (pos (65536 - n)))) < 32768
    go true e = ltb-true n 32768 e
    go false e = let f = ltb-false n 32768 e in negative-within (65536 - n) (65535 - n) (omega arith) (omega arith)

symbol-within : (t v : ℕ) → v < 65536 → SymbolBytes (row_symbol t v)
unfolding row_symbol
symbol-within t v h =
    dite (ℕ_discrete t 0) (λ e. rw e (omega arith, omega arith))
    (λ z. dite (ℕ_discrete t 1) (terminal z)
    (λ o. dite (ℕ_discrete t 2) (λ e. rw e (omega arith, omega arith))
    (λ r. rw (ne_eqb t 0 z, ne_eqb t 1 o, ne_eqb t 2 r) (omega arith, omega arith))))
  where
    terminal : (t ≡ 0 → ⊥) → t ≡ 1 → SymbolBytes (row_symbol t v)
    terminal z e = dite (dec_le v 255)
        (λ k. rw (e, le-leb v 255 k) (omega arith, omega arith))
        (λ k. rw (e, lt-leb v 255 (omega arith)) (omega arith, omega arith))

-- ---- rules and the grammar

module _ (f : List ℕ) (small : (i : ℕ) → get_or f i 0 < 65536) where
  place-within : (at : ℕ) → SymbolBytes (row_place f at).symbol
  unfolding row_place
  place-within at = symbol-within (get_or f at 0) (get_or f (at + 1) 0) (small (at + 1))

  rule-declared : (at : ℕ) → DeclaredRule (row_rule f at)
  unfolding row_rule row_places row_name
  rule-declared at = record {
    left = omega arith;
    magnitude = signed-within (get_or f (at + 1) 0) (small (at + 1));
    places = records-size (row_place f) 2 max_places (at + 3);
    symbols = λ q h. records-all (row_place f) 2 (λ (p : Place). SymbolBytes p.symbol) zero_place place-within max_places (at + 3) q h;
    name = records-size (row_byte f) 1 name_size (at + name_at);
    bytes = λ k h. records-all (row_byte f) 1 (λ b. b < 256) 0 (λ i. omega arith) name_size (at + name_at) k h;
  }

  pub grammar-declared : DeclaredGrammar (grammar_in f)
  unfolding grammar_in row_rules
  grammar-declared = record {
    start = omega arith;
    depth = omega arith;
    rules = records-size (row_rule f) rule_numbers max_rules 3;
    each = λ r h. records-all (row_rule f) rule_numbers DeclaredRule no_rule rule-declared max_rules 3 r h;
  }
