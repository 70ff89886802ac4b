-- What is known of the costs over one span of an input. Assumes nothing.
use Rattle.std.specs.Prelude.{ℕ, ◌≤◌, ◌<◌, List, length}
use Rattle.cfg.specs.Grammar.{Cfg, Symbol, Of}
use Rattle.chart.specs.Cell.{Fit}
use Rattle.theory_costs.specs.Lowest.{Lowest}
use Rattle.theory_costs.specs.Cut.{Cost, LeastCut}
use Rattle.theory_costs.specs.Span.{bytes_of, Tells, Inside, Full}
use Rattle.theory_costs.specs.Rule.{NodeCost}

-- over the span from i to j of w, `full` has the least numbers of nodes without a nonterminal of M over the whole span, and `least` has
-- those over every span inside
pub record SpanCosts (G : Cfg) (w : List ℕ) (fit : Fit) (M i j : ℕ) (full : ℕ → ℕ) (least : Cost) : Type 0 where
  pub tells : Tells fit (bytes_of w)
  pub rising : i ≤ j
  pub known : j ≤ length w
  pub inside : Inside G (bytes_of w) i j least
  pub exact : Full G (bytes_of w) M i j full

-- for each start from a to j, `rest` has the least cost of the places from there to j
abbrev pub Rests : Fit → Cost → List Symbol → ℕ → ℕ → (ℕ → ℕ) → Type 0
Rests fit cost places a j rest = (c : ℕ) → a ≤ c → c ≤ j → LeastCut fit cost places c j (rest c)

-- each rule of k before r costs more than the budget
abbrev pub Dearer : Cfg → Fit → ℕ → ℕ → (ℕ → ℕ) → Cost → ℕ → ℕ → ℕ → Type 0
Dearer G fit i j full least k budget r = (s : ℕ) → s < r → (o : Of G s k)
    → (v : ℕ) × Lowest (NodeCost fit full least o.the.places i j) v × (budget < v)

-- each rule of k after r and before s costs more than the budget
abbrev pub DearerBetween : Cfg → Fit → ℕ → ℕ → (ℕ → ℕ) → Cost → ℕ → ℕ → ℕ → ℕ → Type 0
DearerBetween G fit i j full least k budget r s = (q : ℕ) → r < q → q < s → (o : Of G q k)
    → (v : ℕ) × Lowest (NodeCost fit full least o.the.places i j) v × (budget < v)

-- each rule of k after r costs more than the budget
abbrev pub DearerBeyond : Cfg → Fit → ℕ → ℕ → (ℕ → ℕ) → Cost → ℕ → ℕ → ℕ → Type 0
DearerBeyond G fit i j full least k budget r = (q : ℕ) → r < q → (o : Of G q k)
    → (v : ℕ) × Lowest (NodeCost fit full least o.the.places i j) v × (budget < v)
