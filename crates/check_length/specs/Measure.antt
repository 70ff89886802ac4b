-- The rule lengths as a row, by number. Assumes nothing.
use Rattle.std.specs.Prelude.{ℕ, List, ℤ, pos, get_or}
use Rattle.grammar.specs.declared.Rule.{Rule}

-- the length of a rule record
abbrev pub length_of_rule : Rule → ℤ
length_of_rule ρ = ρ.length

-- the length of the rule of a number, in a row of lengths
abbrev pub lengths_in : List ℤ → ℕ → ℤ
lengths_in l r = get_or l r (pos 0)
