-- The parts of a grammar as the code reads them: a symbol from its tag and its value, and a place and a rule from their parts.
-- Assumes nothing.
use Prim.Native.Nat.{ℕ, ◌+◌, ◌≤◌, ◌<◌}
use native.Mathlib.Omega.{arith}
use mathlib.Core.List.{List}
use mathlib.Core.Path.{◌≡◌, refl, ◌∙◌}
use lib.IntN.{ℤ}
use lib.ListN.{get_or}
use borrow.Author.Tests.{ne_eqb, le-leb, lt-leb}
use mir.Syntax.{w16}
use mir.Val.{SFits, to_z, of_z}
use mir.Facts.{to_z-of_z}
use Rattle.grammar.specs.declared.Symbol.{Symbol}
use Rattle.grammar.specs.declared.Symbol.TheVariants.{Nonterminal, Terminal, Range}
use Rattle.grammar.specs.declared.Place.{Place}
use Rattle.grammar.specs.Setters.{rule_with}
use Rattle.grammar.proofs.Setters.{rule-same}
use Rattle.numbers.specs.Numbers.{byte_in, signed_in}
use Rattle.c_grammar.specs.Flat.{years_at, name_at, low_end, high_end, row_symbol, row_place, row_places, row_name, row_rule}

module _ (tag value v : ℕ) (e : v ≡ byte_in value) where
  pub symbol-nonterminal : tag ≡ 0 → Nonterminal v ≡ row_symbol tag value
  unfolding row_symbol
  symbol-nonterminal t = rw (e, t)

  pub symbol-terminal : tag ≡ 1 → value ≤ 255 → Terminal v ≡ row_symbol tag value
  unfolding row_symbol
  symbol-terminal t h =
      let d : v ≡ value = omega arith in
      rw (d, t, le-leb value 255 h)

  -- a value too large for a terminal
  pub symbol-large : tag ≡ 1 → 255 < value → Nonterminal 255 ≡ row_symbol tag value
  unfolding row_symbol
  symbol-large t h = rw (t, lt-leb value 255 h)

  pub symbol-range : (low high : ℕ) → low ≡ low_end value → high ≡ high_end value → tag ≡ 2 → Range low high ≡ row_symbol tag value
  unfolding row_symbol
  symbol-range low high l h t = rw (l, h, t)

  -- no tag
  pub symbol-other : (tag ≡ 0 → ⊥) → (tag ≡ 1 → ⊥) → (tag ≡ 2 → ⊥) → Nonterminal 255 ≡ row_symbol tag value
  unfolding row_symbol
  symbol-other z o r = rw (ne_eqb tag 0 z, ne_eqb tag 1 o, ne_eqb tag 2 r)

pub read-place-of : (f : List ℕ) (at : ℕ) (s : Symbol) → s ≡ row_symbol (get_or f at 0) (get_or f (at + 1) 0)
    → ◌≡◌ {A = Place} (record { symbol = s }) (row_place f at)
unfolding row_place
read-place-of f at s e = λ i. record { symbol = e i }

-- the code keeps the length in a local of 16 bits
pub read-rule-of : (f : List ℕ) (at l k : ℕ) (z : ℤ) (p : List Place) (name : List ℕ) → l ≡ byte_in (get_or f at 0)
    → z ≡ signed_in (get_or f (at + 1) 0) → SFits w16 z → k ≡ get_or f (at + 2) 0 → p ≡ row_places f (at + 3) → name ≡ row_name f (at + name_at)
    → rule_with l (to_z w16 (of_z w16 z)) k p (get_or f (at + years_at) 0) (get_or f (at + years_at + 1) 0) name ≡ row_rule f at
unfolding row_rule
read-rule-of f at l k z p name el ez s ek ep en =
    rule-same (rule_with l (to_z w16 (of_z w16 z)) k p (get_or f (at + years_at) 0) (get_or f (at + years_at + 1) 0) name) (row_rule f at)
    el (to_z-of_z s ∙ ez) ek ep refl refl en
