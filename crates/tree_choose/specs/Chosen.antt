-- Which rule and which end are chosen, by the costs in the tables: numbers only, no trees. Assumes nothing.
use Rattle.std.specs.Prelude.{ℕ, ◌+◌, ◌≤◌, ◌<◌, Bool, true, false, List, ◌≡◌, get_or}
use Rattle.sizes.specs.Sizes.{max_rules}
use Rattle.theory_costs.specs.Cut.{within}
use Rattle.packed.specs.Packed.{left_in}
use Rattle.table_layout.specs.Layout.{cost_in, full_in}
use Rattle.table_solve.specs.Solve.{RuleOver}

-- rule r is of the nonterminal k and costs at most the budget over the span from i to j
pub record RuleWithin (p : List ℕ) (k : ℕ) (full tables : List ℕ) (i j budget r : ℕ) : Type 0 where
  pub left : left_in p r ≡ k
  pub cost : ℕ
  pub over : RuleOver p r full tables i j cost
  pub within : cost ≤ budget

-- if rule r is of the nonterminal k, it costs more than the budget
pub record RuleBeyond (p : List ℕ) (k : ℕ) (full tables : List ℕ) (i j budget r : ℕ) : Type 0 where
  pub cost : left_in p r ≡ k → (v : ℕ) × RuleOver p r full tables i j v × (budget < v)

-- b is true if rule r is of k and within the budget, and false if it is not
pub record RuleTested (p : List ℕ) (k : ℕ) (full tables : List ℕ) (i j budget r : ℕ) (b : Bool) : Type 0 where
  pub yes : b ≡ true → RuleWithin p k full tables i j budget r
  pub no : b ≡ false → RuleBeyond p k full tables i j budget r

-- no rule from `from` on, before r and below `rules`, is of k and within the budget
pub record RulesPassed (p : List ℕ) (rules from k : ℕ) (full tables : List ℕ) (i j budget r : ℕ) : Type 0 where
  pub start : from ≤ r
  pub beyond : (s : ℕ) → from ≤ s → s < r → s < rules → RuleBeyond p k full tables i j budget s

-- r is the first rule from `from` on and below `rules` that is of k and within the budget; it is no rule's number if there is none
pub record RuleChosen (p : List ℕ) (rules from k : ℕ) (full tables : List ℕ) (i j budget r : ℕ) : Type 0 where
  pub fits : r < max_rules → RuleWithin p k full tables i j budget r
  pub early : RulesPassed p rules from k full tables i j budget r

-- the cost of the nonterminal k from a to c and of the places after it; the costs of those places are in `rows` from `at` on
abbrev pub sum_at : List ℕ → List ℕ → ℕ → ℕ → ℕ → ℕ → List ℕ → ℕ → ℕ → ℕ
sum_at tables full k i a j rows at c = within i j (full_in full) (cost_in tables) k a c + get_or rows (at + c) 0

-- that cost is more than the budget for each end c from `from` on and before b
pub record EndsTooCostly (tables full : List ℕ) (k i a from j : ℕ) (rows : List ℕ) (at budget b : ℕ) : Type 0 where
  pub beyond : (c : ℕ) → from ≤ c → c < b → c ≤ j → budget < sum_at tables full k i a j rows at c

-- b is the first end from `from` on for which that cost is within the budget; it is more than j if there is none up to j
pub record EndChosen (tables full : List ℕ) (k i a from j : ℕ) (rows : List ℕ) (at budget b : ℕ) : Type 0 where
  pub start : from ≤ b
  pub fits : b ≤ j → sum_at tables full k i a j rows at b ≤ budget
  pub early : EndsTooCostly tables full k i a from j rows at budget b
