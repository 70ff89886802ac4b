-- A rule and a grammar with one field changed. Definitions and proofs outside this crate make and change both by these and by the zeros:
-- they spell out no record, so a new field changes nothing else. Assumes nothing.
use Rattle.std.specs.Prelude.{ℕ, ◌+◌, List, ℤ, set}
use Rattle.grammar.specs.declared.Symbol.{Symbol}
use Rattle.grammar.specs.declared.Place.{Place}
use Rattle.grammar.specs.declared.Rule.{Rule}
use Rattle.grammar.specs.declared.Grammar.{Grammar}
use Rattle.grammar.specs.Zero.{zero_rule}

-- ---- a rule

-- the rule of these fields, as a row of numbers gives them
abbrev pub rule_with : ℕ → ℤ → ℕ → List Place → ℕ → ℕ → List ℕ → Rule
rule_with k hundredths n places first last name =
    record { left = k; length = hundredths; count = n; places = places; first = first; last = last; name = name }

-- the rule with another left side, length, number of places, list of places, or place q
abbrev pub set_left : Rule → ℕ → Rule
set_left r k = rule_with k r.length r.count r.places r.first r.last r.name

abbrev pub set_length : Rule → ℤ → Rule
set_length r hundredths = rule_with r.left hundredths r.count r.places r.first r.last r.name

abbrev pub set_place_count : Rule → ℕ → Rule
set_place_count r n = rule_with r.left r.length n r.places r.first r.last r.name

abbrev pub set_places : Rule → List Place → Rule
set_places r places = rule_with r.left r.length r.count places r.first r.last r.name

abbrev pub set_place : Rule → ℕ → Place → Rule
set_place r q p = set_places r (set r.places q p)

-- the rule with another first and last year
abbrev pub set_years : Rule → ℕ → ℕ → Rule
set_years r first last = rule_with r.left r.length r.count r.places first last r.name

-- the rule with another name
abbrev pub set_name : Rule → List ℕ → Rule
set_name r name = rule_with r.left r.length r.count r.places r.first r.last name

-- the last year there is; a rule that is opened without years holds from year 0 to it
abbrev pub last_year : ℕ
last_year = 65535

-- a rule of this left side, length, first and last year, with no place and no name yet
abbrev pub opened_rule : ℕ → ℤ → ℕ → ℕ → Rule
opened_rule k hundredths first last = set_years (set_length (set_left zero_rule k) hundredths) first last

-- the rule with one place more
abbrev pub placed_rule : Rule → Symbol → Rule
placed_rule r s = set_place_count (set_place r r.count (record { symbol = s })) (r.count + 1)

-- ---- a grammar

-- the grammar of these fields, as a row of numbers gives them
abbrev pub grammar_with : ℕ → ℕ → ℕ → List Rule → Grammar
grammar_with k n d rules = record { start = k; count = n; depth = d; rules = rules }

-- the grammar with another start symbol, number of rules, nullable depth, list of rules, or rule i
abbrev pub set_start : Grammar → ℕ → Grammar
set_start g k = record { start = k; count = g.count; depth = g.depth; rules = g.rules }

abbrev pub set_count : Grammar → ℕ → Grammar
set_count g n = record { start = g.start; count = n; depth = g.depth; rules = g.rules }

abbrev pub set_depth : Grammar → ℕ → Grammar
set_depth g d = record { start = g.start; count = g.count; depth = d; rules = g.rules }

abbrev pub set_rules : Grammar → List Rule → Grammar
set_rules g rules = record { start = g.start; count = g.count; depth = g.depth; rules = rules }

abbrev pub set_rule : Grammar → ℕ → Rule → Grammar
set_rule g i r = set_rules g (set g.rules i r)
