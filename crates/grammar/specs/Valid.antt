-- Check 8: start or a used nonterminal (kind) over 31, more than 128 rules, more than 8 places, a used range whose low end is above its
-- high end, a used rule whose first year is above its last or whose name is neither valid nor zeros, or two used rules of the same name
-- are refused. Only what is used, as the counts say, is checked; the nullable depth, the lengths and unused records may hold anything.
-- Assumes nothing.
use Rattle.std.specs.Prelude.{ℕ, Bool, true, not, ◌&&◌, ◌||◌, List, [], ◌∷◌, map, leb, take}
use Rattle.sizes.specs.Sizes.{max_rules}
use Rattle.theory_words.specs.Name.{unnamed, allowed_name, has_name}
use Rattle.grammar.specs.declared.Symbol.{Symbol}
use Rattle.grammar.specs.declared.Symbol.TheVariants.{Nonterminal, Terminal, Range}
use Rattle.grammar.specs.declared.Place.{Place}
use Rattle.grammar.specs.declared.Rule.{Rule}
use Rattle.grammar.specs.declared.Grammar.{Grammar}

-- the test holds of every element
unfoldable pub all : {A : Type 0} → (A → Bool) → List A → Bool
all test [] = true
all test (a ∷ l) = test a && all test l

-- a nonterminal is at most 31, and the low end of a range at most its high end
abbrev pub valid_symbol : Symbol → Bool
valid_symbol (Nonterminal k) = leb k 31
valid_symbol (Terminal m) = true
valid_symbol (Range low high) = leb low high

-- check 8 for a place
abbrev pub valid_place : Place → Bool
valid_place p = valid_symbol p.symbol

-- check 8 for a rule: its left side, its count, its used places, its years, and its name
unfoldable pub valid_rule : Rule → Bool
valid_rule r =
    leb r.left 31 && leb r.count 8 && all valid_place (take r.count r.places) && leb r.first r.last
    && allowed_name r.name

-- the names of the used rules
abbrev pub names_of : Grammar → List (List ℕ)
names_of g = map (λ (r : Rule). r.name) (take g.count g.rules)

-- no two names are the same; zeros are no name
unfoldable pub distinct_names : List (List ℕ) → Bool
distinct_names [] = true
distinct_names (name ∷ names) = (unnamed name || not (has_name name names)) && distinct_names names

-- check 8 for a grammar: its start symbol, its count, its used rules, and their names together
unfoldable pub valid_grammar : Grammar → Bool
valid_grammar g =
    leb g.start 31 && leb g.count max_rules && all valid_rule (take g.count g.rules) && distinct_names (names_of g)
