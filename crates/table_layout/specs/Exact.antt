-- When the tables are right, for a packed grammar and the bytes that are allowed at the positions before n. Nothing here reads an input:
-- the fit table and the chart represent it. Assumes nothing.
use Rattle.std.specs.Prelude.{ℕ, ◌≤◌, ◌<◌, false, List, ◌≡◌, length}
use Rattle.sizes.specs.Sizes.{max_rules, nonterminals}
use Rattle.sets.specs.Set.{has}
use Rattle.cfg.specs.Grammar.{Cfg}
use Rattle.cfg.specs.Tree.{Forest}
use Rattle.chart.specs.Cell.{Fit, cell}
use Rattle.packed.specs.Packed.{left_in, place_count, places_in, cfg_in}
use Rattle.theory_costs.specs.Cut.{Cost}
use Rattle.theory_costs.specs.Lowest.{Lowest}
use Rattle.theory_costs.specs.Span.{TreeOver, Least}
use Rattle.theory_costs.specs.Rule.{BareCost, alone}
use Rattle.table_layout.specs.Layout.{cost_in, alone_in, bare_in, tables_size}

-- the grammar of the packed bytes; its start symbol does not matter below the root
abbrev pub Packing : List ℕ → Cfg
Packing p = cfg_in 0 p

-- no number from m on has a rule
abbrev pub PastLast : List ℕ → ℕ → Type 0
PastLast p m = (r : ℕ) → m ≤ r → r < max_rules → nonterminals ≤ left_in p r

-- a nonterminal that is not among the members has no tree over the span from i to j
abbrev pub CellTrue : List ℕ → (ℕ → ℕ → Type 0) → ℕ → ℕ → ℕ → Type 0
CellTrue p bytes i j members = (k : ℕ) → has k members ≡ false → (t : Forest) → TreeOver (Packing p) bytes k i j t → ⊥

-- this holds for each cell of the chart up to n
abbrev pub ChartTrue : List ℕ → (ℕ → ℕ → Type 0) → List ℕ → ℕ → Type 0
ChartTrue p bytes chart n = (i j : ℕ) → i ≤ j → j ≤ n → CellTrue p bytes i j (cell chart i j)

-- the tables have the `alone` costs of rule r, which follow from `empty`, the costs over no byte
abbrev pub Alones : (ℕ → ℕ) → List ℕ → ℕ → List ℕ → Type 0
Alones empty p r tables = (q : ℕ) → q < place_count p r → alone_in tables r q ≡ alone empty (places_in p r) q

-- what the costs of rules over the span from i to j, which is not empty, are made of; `least` has the costs over the spans inside. Nothing
-- is said of a number that has no rule
pub record SpanReady (fit : Fit) (least : Cost) (p tables : List ℕ) (i j : ℕ) : Type 0 where
  pub empty : ℕ → ℕ
  pub start : (k : ℕ) → least k i i ≡ empty k
  pub stop : (k : ℕ) → least k j j ≡ empty k
  pub beside : (r : ℕ) → r < max_rules → Alones empty p r tables
  pub without : (r : ℕ) → r < max_rules → left_in p r < nonterminals → Lowest (BareCost fit least (places_in p r) i j) (bare_in tables i j r)

-- the tables are right for every span up to n
pub record ExactTables (fit : Fit) (bytes : ℕ → ℕ → Type 0) (p : List ℕ) (n : ℕ) (tables : List ℕ) : Type 0 where
  pub long : length tables ≡ tables_size
  pub least : (k i j : ℕ) → i ≤ j → j ≤ n → Least (TreeOver (Packing p) bytes k i j) (cost_in tables k i j)
  pub ready : (i j : ℕ) → i < j → j ≤ n → SpanReady fit (cost_in tables) p tables i j
