-- Flags: for a rule and a start, the set of the places from which on the rule cuts the span up to the column's end. This file says what
-- such a word means, also if it counts only the inner cuts, whose first piece lies inside the span. Assumes nothing.
use Rattle.std.specs.Prelude.{ℕ, suc, ◌-◌, ◌≤◌, ◌<◌, true, cond, ◌&&◌, List, ◌↔◌, ◌≡◌, eqb}
use Rattle.sets.specs.Set.{has}
use Rattle.cfg.specs.Grammar.{Symbol, nonterminal, terminal, Terminal}
use Rattle.chart.specs.Cell.{Fit, cuts}
use Rattle.packed.specs.Packed.{place_count, symbol_in, places_from}

-- the set of a span from its start to its end
abbrev pub Sets : Type 0
Sets = ℕ → ℕ → ℕ

-- the symbols of the places of rule r from q on
abbrev pub tail : List ℕ → ℕ → ℕ → List Symbol
tail p r q = places_from p r q (place_count p r - q)

-- v has q exactly if the places q.. of rule r cut the span from a to n
abbrev pub Cutting : Fit → Sets → List ℕ → ℕ → ℕ → ℕ → ℕ → Type 0
Cutting fit sets p r a n v = (q : ℕ) → q ≤ place_count p r → has q v ≡ cuts fit sets (tail p r q) a n

-- the symbol and the rest cut the span from a to n, and the first piece is a byte, or neither empty nor the whole
pub data InnerCut (fit : Fit) (sets : Sets) (n : ℕ) (s : Symbol) (rest : List Symbol) (a : ℕ) : Type 0 where
  inner_leaf : (t : Terminal) → s ≡ terminal t → a < n → fit a t ≡ true → cuts fit sets rest (suc a) n ≡ true
      → InnerCut fit sets n s rest a
  inner_node : (k b : ℕ) → s ≡ nonterminal k → a < b → b < n → has k (sets a b) ≡ true → cuts fit sets rest b n ≡ true
      → InnerCut fit sets n s rest a

-- an inner cut begins at place q of rule r
abbrev pub InnerAt : Fit → Sets → List ℕ → ℕ → ℕ → ℕ → ℕ → Type 0
InnerAt fit sets p r a n q = InnerCut fit sets n (symbol_in p r q) (tail p r (suc q)) a

-- v has q exactly if an inner cut begins at place q of rule r
abbrev pub Inner : Fit → Sets → List ℕ → ℕ → ℕ → ℕ → ℕ → Type 0
Inner fit sets p r a n v = (q : ℕ) → q < place_count p r → (has q v ≡ true) ↔ InnerAt fit sets p r a n q

-- the sets, with v in place of that of the span from i to n
unfoldable pub owned : Sets → ℕ → ℕ → ℕ → Sets
owned sets i n v a b = cond (eqb a i && eqb b n) v (sets a b)
