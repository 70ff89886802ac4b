-- A flat row of 16-bit numbers: the grammar of a row, and the row of a grammar. A row has the start symbol, the number of rules used, the
-- nullable depth, and 128 rules. A rule has its left side, its length (two's complement), the number of places used, for each of 8 places
-- a tag (0 a nonterminal, 1 a terminal, 2 a range) and a value, its first and its last year, and the 8 bytes of its name. The value of a
-- range is its low end and 256 times its high end. All 16 bits of a number count: one that is too large for its place is read as a value
-- that check 8 refuses where it is used. A count too large for a row is written as one that check 8 refuses. Assumes nothing.
use Rattle.std.specs.Prelude.{ℕ, zero, suc, ◌+◌, ◌*◌, ◌/◌, ◌%◌, cond, ◌&&◌, eqb, leb, get_or}
use mathlib.Core.List.{List, [], ◌∷◌, ◌++◌, flat_map}
use Rattle.sizes.specs.Sizes.{max_rules, max_places}
use Rattle.theory_words.specs.Name.{name_size}
use Rattle.numbers.specs.Numbers.{byte_in, saturated, signed_in, unsigned_of}
use Rattle.grammar.specs.declared.Symbol.{Symbol}
use Rattle.grammar.specs.declared.Symbol.TheVariants.{Nonterminal, Terminal, Range}
use Rattle.grammar.specs.declared.Place.{Place}
use Rattle.grammar.specs.declared.Rule.{Rule}
use Rattle.grammar.specs.declared.Grammar.{Grammar}
use Rattle.grammar.specs.Setters.{rule_with, grammar_with}
use Rattle.grammar.specs.Tagged.{tag_of, value_of, high_of}

-- at which of a rule's numbers its years and its name are, how many numbers a rule has, and how many a row has
abbrev pub years_at : ℕ
years_at = 3 + 2 * max_places

abbrev pub name_at : ℕ
name_at = years_at + 2

abbrev pub rule_numbers : ℕ
rule_numbers = name_at + name_size

abbrev pub flat_size : ℕ
flat_size = 3 + max_rules * rule_numbers

-- ---- the grammar of a row

-- n records of w numbers each, from an index on
unfoldable pub records_from : {A : Type 0} → (ℕ → A) → ℕ → ℕ → ℕ → List A
records_from read w at zero = []
records_from read w at (suc n) = read at ∷ records_from read w (at + w) n

-- the ends of a range, of which the value holds both
abbrev pub low_end : ℕ → ℕ
low_end value = value % 256

abbrev pub high_end : ℕ → ℕ
high_end value = value / 256

-- the symbol of a tag and a value: a nonterminal, a terminal of one byte, a range, or else the nonterminal 255
unfoldable pub row_symbol : ℕ → ℕ → Symbol
row_symbol tag value =
    cond (eqb tag 0) (Nonterminal (byte_in value)) (cond (eqb tag 1 && leb value 255) (Terminal value)
    (cond (eqb tag 2) (Range (low_end value) (high_end value)) (Nonterminal 255)))

-- the place at an index
unfoldable pub row_place : List ℕ → ℕ → Place
row_place f at = record { symbol = row_symbol (get_or f at 0) (get_or f (at + 1) 0) }

-- the 8 places from an index on
unfoldable pub row_places : List ℕ → ℕ → List Place
row_places f at = records_from (row_place f) 2 at max_places

-- the byte at an index
abbrev pub row_byte : List ℕ → ℕ → ℕ
row_byte f at = byte_in (get_or f at 0)

-- the name from an index on
unfoldable pub row_name : List ℕ → ℕ → List ℕ
row_name f at = records_from (row_byte f) 1 at name_size

-- the rule at an index
unfoldable pub row_rule : List ℕ → ℕ → Rule
row_rule f at =
    rule_with (byte_in (get_or f at 0)) (signed_in (get_or f (at + 1) 0)) (get_or f (at + 2) 0) (row_places f (at + 3)) (get_or f (at + years_at) 0)
    (get_or f (at + years_at + 1) 0) (row_name f (at + name_at))

-- the 128 rules
unfoldable pub row_rules : List ℕ → List Rule
row_rules f = records_from (row_rule f) rule_numbers 3 max_rules

-- the grammar of a row
unfoldable pub grammar_in : List ℕ → Grammar
grammar_in f = grammar_with (byte_in (get_or f 0 0)) (get_or f 1 0) (byte_in (get_or f 2 0)) (row_rules f)

-- ---- the row of a grammar

-- the two numbers of a place
unfoldable pub flat_place : Place → List ℕ
flat_place p = tag_of p.symbol ∷ (value_of p.symbol + 256 * high_of p.symbol) ∷ []

-- the numbers of a rule
unfoldable pub flat_rule : Rule → List ℕ
flat_rule r =
    r.left ∷ unsigned_of r.length ∷ saturated r.count ∷ (flat_map flat_place r.places ++ (r.first ∷ r.last ∷ r.name))

-- the row of a grammar
unfoldable pub flat_of : Grammar → List ℕ
flat_of g = g.start ∷ saturated g.count ∷ g.depth ∷ flat_map flat_rule g.rules
