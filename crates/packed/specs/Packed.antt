-- What the bytes of a packed grammar mean. Each of its 128 rules has the same number of bytes: the left side (32 or more: there is no such
-- rule), the number of places, for each of 8 places a tag (0: nonterminal, 2: range, else terminal) and a value, and then for each place
-- the high end of its range. Assumes nothing.
use Rattle.std.specs.Prelude.{ℕ, zero, suc, ◌+◌, ◌*◌, ◌<◌, min, Bool, false, cond, List, [], ◌∷◌, eqb, ltb, get_or}
use Rattle.std.proofs.Math.Option.{Option, none, some}
use Rattle.sizes.specs.Sizes.{max_rules, max_places}
use Rattle.cfg.specs.Grammar.{Cfg, Rule, Symbol, nonterminal, terminal, Terminal, byte, range}
use Rattle.chart.specs.Cell.{fits_at}

-- the bytes of a rule: its left side, its count, and three for each place
abbrev pub rule_bytes : ℕ
rule_bytes = 2 + 3 * max_places

-- where the high ends are in a rule: after its left side, its count, and the tags and values
abbrev pub highs_at : ℕ
highs_at = 2 + 2 * max_places

-- the bytes of a packed grammar
abbrev pub packed_size : ℕ
packed_size = max_rules * rule_bytes

-- the byte of rule r's left side
unfoldable pub left_in : List ℕ → ℕ → ℕ
left_in p r = get_or p (rule_bytes * r) 0

-- the used rules are below this number
abbrev pub Used : List ℕ → ℕ → Type 0
Used p rules = (r : ℕ) → r < max_rules → left_in p r < 32 → r < rules

-- the number of places of rule r: at most 8, and none if there is no such rule
unfoldable pub place_count : List ℕ → ℕ → ℕ
place_count p r = cond (ltb (left_in p r) 32) (min (get_or p (rule_bytes * r + 1) 0) max_places) 0

-- the tag of place q of rule r
unfoldable pub tag_in : List ℕ → ℕ → ℕ → ℕ
tag_in p r q = get_or p (rule_bytes * r + 2 + 2 * q) 0

-- the value of place q of rule r
unfoldable pub value_in : List ℕ → ℕ → ℕ → ℕ
value_in p r q = get_or p (rule_bytes * r + 3 + 2 * q) 0

-- the high end of place q of rule r, where it holds a range
unfoldable pub high_in : List ℕ → ℕ → ℕ → ℕ
high_in p r q = get_or p (rule_bytes * r + highs_at + q) 0

-- whether place q of rule r holds a nonterminal
unfoldable pub is_nonterminal_in : List ℕ → ℕ → ℕ → Bool
is_nonterminal_in p r q = eqb (tag_in p r q) 0

-- whether place q of rule r holds a range
unfoldable pub is_range_in : List ℕ → ℕ → ℕ → Bool
is_range_in p r q = eqb (tag_in p r q) 2

-- the terminal in place q of rule r, if it holds one
unfoldable pub terminal_in : List ℕ → ℕ → ℕ → Terminal
terminal_in p r q = cond (is_range_in p r q) (range (value_in p r q) (high_in p r q)) (byte (value_in p r q))

-- the symbol in place q of rule r
unfoldable pub symbol_in : List ℕ → ℕ → ℕ → Symbol
symbol_in p r q = cond (is_nonterminal_in p r q) (nonterminal (value_in p r q)) (terminal (terminal_in p r q))

-- the symbols of n places of rule r, from place q on
unfoldable pub places_from : List ℕ → ℕ → ℕ → ℕ → List Symbol
places_from p r q zero = []
places_from p r q (suc n) = symbol_in p r q ∷ places_from p r (suc q) n

-- the symbols of the places of rule r
unfoldable pub places_in : List ℕ → ℕ → List Symbol
places_in p r = places_from p r 0 (place_count p r)

-- rule r, if there is one
unfoldable pub rule_in : List ℕ → ℕ → Option Rule
rule_in p r = cond (ltb (left_in p r) 32) (some (record { left = left_in p r; places = places_in p r })) none

-- n rules, from rule r on
unfoldable pub packed_rules : List ℕ → ℕ → ℕ → List (Option Rule)
packed_rules p r zero = []
packed_rules p r (suc n) = rule_in p r ∷ packed_rules p (suc r) n

-- the rules 0 to 127
unfoldable pub rules_in : List ℕ → List (Option Rule)
rules_in p = packed_rules p 0 max_rules

-- the grammar of these rules with this start symbol
unfoldable pub cfg_in : ℕ → List ℕ → Cfg
cfg_in s p = record { start = s; rules = rules_in p }

-- whether the byte at position i of the input fits a symbol, which a nonterminal never does
unfoldable pub fits_place : List ℕ → Symbol → ℕ → Bool
fits_place w (nonterminal k) i = false
fits_place w (terminal t) i = fits_at w i t
