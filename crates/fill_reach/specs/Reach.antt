-- The ends of nonterminals from each start, as sets: an end that is not in the set has an empty cell. And whether a rule can begin a cut,
-- judged by these sets. Assumes nothing.
use Rattle.std.specs.Prelude.{ℕ, ◌+◌, ◌≤◌, ◌<◌, Bool, true, false, List, ◌≡◌, length, get_or}
use Rattle.sizes.specs.Sizes.{max_input}
use Rattle.sets.specs.Set.{has, insert}
use Rattle.sets.specs.Pairs.{Meeting}
use Rattle.chart.specs.Cell.{cell}

-- the set has the ends before n of spans from i
pub record ReachFrom (chart : List ℕ) (i n ends : ℕ) : Type 0 where
  pub empty : (c : ℕ) → i < c → c < n → has c ends ≡ false → cell chart i c ≡ 0

-- the same for each start before m
pub record ReachesBefore (chart : List ℕ) (n m : ℕ) (reach : List ℕ) : Type 0 where
  pub long : length reach ≡ max_input
  pub from : (i : ℕ) → i < m → ReachFrom chart i n (get_or reach i 0)

-- the same for all starts before n
abbrev pub Reaches : List ℕ → ℕ → List ℕ → Type 0
Reaches chart n reach = ReachesBefore chart n n reach

-- f says whether a rule can have an inner cut of the span from i to n: it has none if neither i + 1 nor an end from i is one of its starts
pub record CanBegin (i n reach live : ℕ) (f : Bool) : Type 0 where
  pub before : i + 1 < n → Meeting 64 (insert (i + 1) reach) live f
  pub at_end : n ≤ i + 1 → f ≡ true
