-- The least numbers of nodes over one whole span. Passes over the rules find them, from 513 everywhere: each number is reached, and at the
-- end no rule gives a lower one. The definitions speak of numbers, not of trees, and hold for all fits and costs for which the tables are
-- right. Assumes nothing.
use Rattle.std.specs.Prelude.{ℕ, ◌+◌, ◌≤◌, ◌<◌, Bool, true, false, List, [], ◌∷◌, ◌≡◌, length}
use Rattle.sizes.specs.Sizes.{max_rules, nonterminals, too_many}
use Rattle.sets.specs.Set.{has}
use Rattle.chart.specs.Cell.{Fit}
use Rattle.theory_costs.specs.Cut.{Cost}
use Rattle.theory_costs.specs.Lowest.{Lowest}
use Rattle.theory_costs.specs.Rule.{NodeCost}
use Rattle.packed.specs.Packed.{left_in, places_in}
use Rattle.table_layout.specs.Layout.{full_in}
use Rattle.table_layout.specs.Exact.{SpanReady}

-- ---- one rule

-- v is the cost of rule r over the span from i to j, the node included; `full` has the costs over the whole span
pub record RuleOver (p : List ℕ) (r : ℕ) (full tables : List ℕ) (i j v : ℕ) : Type 0 where
  pub exact : left_in p r < nonterminals → (fit : Fit) (least : Cost) → (i < j → SpanReady fit least p tables i j)
      → Lowest (NodeCost fit (full_in full) least (places_in p r) i j) v

-- the answer b says whether the number of k is wanted: the cell has k, and the mask does not
pub record Wanted (k cell mask : ℕ) (b : Bool) : Type 0 where
  pub taken : b ≡ true → (has k cell ≡ true) × (has k mask ≡ false)
  pub left : b ≡ false → has k cell ≡ true → has k mask ≡ false → ⊥

-- the sum of numbers
unfoldable pub total : List ℕ → ℕ
total [] = 0
total (n ∷ numbers) = n + total numbers

-- the numbers of one span, none above 513
pub record Numbers (full : List ℕ) : Type 0 where
  pub long : length full ≡ nonterminals
  pub capped : (k : ℕ) → full_in full k ≤ too_many

-- the number v of k is reached: the mask does not have k, and a rule of k costs v by numbers that are 513 or reached. It follows that a
-- tree has v nodes, for any bytes that agree with the fit
pub data Reach (fit : Fit) (least : Cost) (p : List ℕ) (mask i j : ℕ) : ℕ → ℕ → Type 0 where
  reach : {r k v : ℕ} (full : ℕ → ℕ) → r < max_rules → left_in p r ≡ k → k < nonterminals → has k mask ≡ false
      → ((x : ℕ) → full x < too_many → Reach fit least p mask i j x (full x))
      → Lowest (NodeCost fit full least (places_in p r) i j) v → Reach fit least p mask i j k v

-- each number is 513 or reached, for all fits and costs for which the tables are right
pub record AllReached (p : List ℕ) (mask : ℕ) (tables : List ℕ) (i j : ℕ) (full : List ℕ) : Type 0 where
  pub at : (fit : Fit) (least : Cost) → (i < j → SpanReady fit least p tables i j)
      → (k : ℕ) → full_in full k < too_many → Reach fit least p mask i j k (full_in full k)

-- rule r gives no lower number to its left side, if that is in the cell and not in the mask
abbrev pub Settled : List ℕ → ℕ → ℕ → ℕ → List ℕ → ℕ → ℕ → List ℕ → Type 0
Settled p r cell mask tables i j full = (fit : Fit) (least : Cost) → (i < j → SpanReady fit least p tables i j)
    → left_in p r < nonterminals → has (left_in p r) cell ≡ true → has (left_in p r) mask ≡ false
    → (u : ℕ) → NodeCost fit (full_in full) least (places_in p r) i j u → full_in full (left_in p r) ≤ u

-- ---- passes

-- a pass over the rules below m turned full₀ into full; `changed` says whether a number got lower
pub record PassSolved (p : List ℕ) (m cell mask : ℕ) (tables : List ℕ) (i j : ℕ) (full₀ full : List ℕ) (changed : Bool) : Type 0 where
  pub numbers : Numbers full
  pub reached : AllReached p mask tables i j full₀ → AllReached p mask tables i j full
  pub less : changed ≡ true → total full < total full₀
  pub same : changed ≡ false → full ≡ full₀
  pub settled : changed ≡ false → (r : ℕ) → r < m → Settled p r cell mask tables i j full

-- the look at rule r turned full₀ into full; `changed` says whether a number got lower
pub record Improved (p : List ℕ) (r cell mask : ℕ) (tables : List ℕ) (i j : ℕ) (full₀ full : List ℕ) (changed : Bool) : Type 0 where
  pub numbers : Numbers full
  pub reached : AllReached p mask tables i j full₀ → AllReached p mask tables i j full
  pub less : changed ≡ true → total full < total full₀
  pub same : changed ≡ false → full ≡ full₀
  pub settled : changed ≡ false → Settled p r cell mask tables i j full

-- the numbers once a pass changes nothing: each is reached, and no rule below `rules` gives a lower one. By the law `solved-full` they are
-- the least numbers of nodes over the span from i to j; no node over the whole span may have a nonterminal of `mask`
pub record Solved (p : List ℕ) (rules cell mask : ℕ) (tables : List ℕ) (i j : ℕ) (full : List ℕ) : Type 0 where
  pub numbers : Numbers full
  pub reached : AllReached p mask tables i j full
  pub settled : (r : ℕ) → r < rules → Settled p r cell mask tables i j full
