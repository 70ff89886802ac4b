-- Check 8 in terms of a flat row's own numbers, all 16 bits of each. It refuses a start symbol or a used nonterminal over 31, more than
-- 128 rules, more than 8 places, a used range whose low end is above its high end, a used place that is no symbol, a used rule whose first
-- year is above its last or whose name is neither valid nor zeros, and two used rules of the same name. Assumes nothing.
use Rattle.std.specs.Prelude.{ℕ, zero, suc, ◌+◌, ◌*◌, Bool, true, ◌&&◌, ◌||◌, List, eqb, leb, get_or}
use Rattle.sizes.specs.Sizes.{max_rules, max_places}
use Rattle.theory_words.specs.Name.{name_size, allowed_name}
use Rattle.grammar.specs.Valid.{distinct_names}
use Rattle.c_grammar.specs.Flat.{years_at, name_at, rule_numbers, records_from, low_end, high_end}

-- the test holds for each number below n
unfoldable pub each : ℕ → (ℕ → Bool) → Bool
each zero test = true
each (suc n) test = each n test && test n

-- tag 0 and a value up to 31, tag 1 and a value up to 255, or tag 2 and a value of two ends in their order
abbrev pub valid_tagged : ℕ → ℕ → Bool
valid_tagged tag value =
    (eqb tag 0 && leb value 31) || (eqb tag 1 && leb value 255) || (eqb tag 2 && leb (low_end value) (high_end value))

-- whether a place is valid, by the index of its tag
unfoldable pub valid_place_at : List ℕ → ℕ → Bool
valid_place_at f at = valid_tagged (get_or f at 0) (get_or f (at + 1) 0)

-- the numbers of a rule's name as they are, by the index of its left side
unfoldable pub name_numbers : List ℕ → ℕ → List ℕ
name_numbers f at = records_from (λ k. get_or f k 0) 1 (at + name_at) name_size

-- whether a rule is valid, by the index of its left side: its left side, its count, its used places, its years, and its name
unfoldable pub valid_rule_at : List ℕ → ℕ → Bool
valid_rule_at f at =
    leb (get_or f at 0) 31 && leb (get_or f (at + 2) 0) max_places && each (get_or f (at + 2) 0) (λ q. valid_place_at f (at + 3 + 2 * q))
    && leb (get_or f (at + years_at) 0) (get_or f (at + years_at + 1) 0) && allowed_name (name_numbers f at)

-- whether a row is valid: its start symbol, its count, its used rules, and their names together
unfoldable pub valid_row : List ℕ → Bool
valid_row f =
    leb (get_or f 0 0) 31 && leb (get_or f 1 0) max_rules && each (get_or f 1 0) (λ r. valid_rule_at f (3 + rule_numbers * r))
    && distinct_names (records_from (name_numbers f) rule_numbers 3 (get_or f 1 0))
