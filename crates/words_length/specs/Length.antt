-- How long the text of a derivation is, as a sum over its nodes. Assumes nothing.
use Rattle.std.specs.Prelude.{ℕ, ◌+◌, ◌-◌, cond, List, [], ◌∷◌, ltb, length}
use Rattle.sizes.specs.Sizes.{max_rules}
use Rattle.packed.specs.Packed.{place_count}
use Rattle.words_text.specs.Names.{text_in}

-- what a node of rule r adds: the text of the rule, `(` and `)`, a comma before each place but the first; 0 if there is no such rule
unfoldable pub size_in : List ℕ → List ℕ → ℕ → ℕ
size_in names p r = cond (ltb r max_rules) (length (text_in names r) + (2 + (place_count p r - 1))) 0

-- the most that a node adds: a name of 8 bytes, `(` and `)`, 7 commas
abbrev pub most_size : ℕ
most_size = 17

-- the sum over the nodes of a derivation
unfoldable pub size_sum : (ℕ → ℕ) → List ℕ → ℕ
size_sum size [] = 0
size_sum size (cover ∷ []) = 0
size_sum size (cover ∷ r ∷ e) = size r + size_sum size e
