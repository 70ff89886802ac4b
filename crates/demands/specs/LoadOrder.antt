-- Loading, at one command: the refusal given is the first that applies, in the documents' order: 1 if the book has ended, then 2, 3, 1, 4,
-- 16, 17 or 21, then 5 or 6, and 7 after 50. Assumes nothing.
use Rattle.std.specs.Prelude.{ℕ, ◌+◌, Bool, true, ◌&&◌, ◌||◌, not, List, [], ◌∷◌, ◌≡◌, eqb, ltb, length}
use Rattle.grammar.specs.declared.Grammar.{Grammar}
use Rattle.results.specs.Load.{operands, operand, from_year, to_year, given_name, open_rule, unknown, opens_rule, adds_place, out_of_turn}
use Rattle.results.specs.Load.{refused_name, Fault, Step, stop}
use Rattle.demands.specs.Cause.{Cause, cause, Decided}

-- 1: the book has ended where a command or 50 is due
abbrev pub ended : List ℕ → ℕ → Bool
ended bytes at = not (ltb at (length bytes))

-- 1: the book ends inside the command c
abbrev pub ends_inside : List ℕ → ℕ → ℕ → Bool
ends_inside bytes at c = ltb (length bytes) (at + 1 + operands c)

-- 4: the command c has a nonterminal as its first operand, and that is over 31
abbrev pub nonterminal_over : List ℕ → ℕ → ℕ → Bool
nonterminal_over bytes at c = (eqb c 0x10 || opens_rule c || eqb c 0x30) && ltb 31 (operand bytes at 0)

-- 16: the low end of a range is above its high end
abbrev pub range_reversed : List ℕ → ℕ → ℕ → Bool
range_reversed bytes at c = eqb c 0x41 && ltb (operand bytes at 1) (operand bytes at 0)

-- 17: the name is empty, has another byte or a blank before a letter or digit, or equals an earlier name
abbrev pub name_refused : List ℕ → ℕ → ℕ → Grammar → Bool
name_refused bytes at c g = eqb c 0x60 && refused_name g (given_name (operand bytes at))

-- 21: the first year of a rule is above its last
abbrev pub years_reversed : List ℕ → ℕ → ℕ → Bool
years_reversed bytes at c = eqb c 0x21 && ltb (to_year (operand bytes at)) (from_year (operand bytes at))

-- 5: the 129th rule
abbrev pub rules_over : ℕ → Grammar → Bool
rules_over c g = opens_rule c && ltb 127 g.count

-- 6: the ninth place of a rule
abbrev pub places_over : ℕ → Grammar → Bool
places_over c g = adds_place c && ltb 7 (open_rule g).count

-- 7: a byte after 50
abbrev pub further_byte : List ℕ → ℕ → ℕ → Bool
further_byte bytes at c = eqb c 0x50 && ltb (at + 1) (length bytes)

-- loading stops with this number and this offset
abbrev pub stopped : ℕ → ℕ → Step
stopped n at = stop (record { number = n; offset = at })

-- a cause that stops loading with this number and this offset
abbrev pub stops : Bool → ℕ → ℕ → Cause Fault
stops b n at = cause (b ≡ true) (record { number = n; offset = at })

-- the causes for the command c at an offset that come after its turn; g is the grammar read so far
abbrev pub operand_causes : List ℕ → ℕ → ℕ → Grammar → List (Cause Fault)
operand_causes bytes at c g =
    stops (ends_inside bytes at c) 1 (length bytes)
    ∷ stops (nonterminal_over bytes at c) 4 at
    ∷ stops (range_reversed bytes at c) 16 at
    ∷ stops (name_refused bytes at c g) 17 at
    ∷ stops (years_reversed bytes at c) 21 at
    ∷ stops (rules_over c g) 5 at
    ∷ stops (places_over c g) 6 at
    ∷ stops (further_byte bytes at c) 7 (at + 1)
    ∷ []

-- all causes for the command c at an offset
abbrev pub command_causes : List ℕ → ℕ → ℕ → Grammar → List (Cause Fault)
command_causes bytes at c g =
    stops (ended bytes at) 1 (length bytes)
    ∷ stops (unknown c) 2 at
    ∷ stops (out_of_turn c at g) 3 at
    ∷ operand_causes bytes at c g

-- the first of them that applies decides; if none applies, loading does not stop here
abbrev pub CommandOrder : List ℕ → ℕ → ℕ → Grammar → Step → Type 0
CommandOrder bytes at c g = Decided (command_causes bytes at c g) stop (λ result. (f : Fault) → result ≡ stop f → ⊥)
