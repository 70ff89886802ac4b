-- What the first derivation below a node is, once the tables are made: which numbers are written, and which are kept. Assumes nothing.
use Rattle.std.specs.Prelude.{ℕ, ◌+◌, ◌*◌, ◌-◌, ◌≤◌, ◌<◌, List, ◌≡◌, length, get_or}
use Rattle.sizes.specs.Sizes.{max_rules, too_many}
use Rattle.cfg.specs.Tree.{Forest}
use Rattle.chart.specs.Cell.{cell, fits_at}
use Rattle.theory_enumeration.specs.Rows.{Row, Tree}
use Rattle.theory_enumeration.specs.Order.{Min}
use Rattle.theory_costs.specs.Span.{bytes_of, FreeTree, Least}
use Rattle.theory_choices.specs.SpanCosts.{SpanCosts}
use Rattle.packed.specs.Packed.{place_count}
use Rattle.table_layout.specs.Layout.{cost_in, full_in}
use Rattle.packed_fit.specs.Fit.{FitTold}
use Rattle.table_layout.specs.Exact.{Packing, PastLast, ChartTrue, ExactTables}
use Rattle.table_suffix.specs.Within.{tail_in, InsideCost, row_at}
use Rattle.table_suffix.specs.Rows.{RowsPut}
use Rattle.table_solve.specs.Solve.{Solved}
use Rattle.tree_choose.specs.Chosen.{RuleChosen}

-- what is given of the input w: the number after the last rule, its fit table, its chart and its tables
pub record InputGiven (p : List ℕ) (rules : ℕ) (fits chart tables w : List ℕ) : Type 0 where
  pub past : PastLast p rules
  pub told : FitTold (fits_at w) p fits (length w)
  pub cells : ChartTrue p (bytes_of w) chart (length w)
  pub exact : ExactTables (fits_at w) (bytes_of w) p (length w) tables

-- the numbers of `out` from node `at` on are the first code of P, of n nodes
pub record FirstAt (P : Forest → Type 0) (out : List ℕ) (at n : ℕ) : Type 0 where
  pub code : List ℕ
  pub first : Min P code
  pub size : length code ≡ 2 * n
  pub here : (y : ℕ) → y < 2 * n → get_or out (2 * at + y) 0 ≡ get_or code y 0

-- writing n nodes from node `at` on keeps all other numbers, and n is within the budget
pub record Kept (budget at n : ℕ) (out₀ out : List ℕ) : Type 0 where
  pub long : length out ≡ length out₀
  pub few : n ≤ budget
  pub before : (x : ℕ) → x < 2 * at → get_or out x 0 ≡ get_or out₀ x 0
  pub after : (x : ℕ) → 2 * (at + n) ≤ x → get_or out x 0 ≡ get_or out₀ x 0

-- if k has a tree over the span from i to j within the budget, in which no node over the whole span has a nonterminal of the mask, then the
-- n nodes written from node `at` on are the first such tree
pub record NodeFirst (p : List ℕ) (rules : ℕ) (fits chart tables : List ℕ) (k i j mask budget at : ℕ) (out₀ out : List ℕ) (n : ℕ)
    : Type 0 where
  pub kept : Kept budget at n out₀ out
  pub exact : (w : List ℕ) → InputGiven p rules fits chart tables w → j ≤ length w → (x : ℕ)
      → Least (FreeTree (Packing p) (bytes_of w) mask (j - i) k i j) x → x ≤ budget
      → FirstAt (Tree (Packing p) w (j - i) mask k i j budget) out at n

-- what is known below a node of rule r over the span from i to j: the costs over the span under the mask, and those of the rule's places
pub record BelowGiven (p : List ℕ) (rules : ℕ) (fits chart tables full rows : List ℕ) (r i j mask : ℕ) (w : List ℕ) : Type 0 where
  pub given : InputGiven p rules fits chart tables w
  pub solved : SpanCosts (Packing p) w (fits_at w) mask i j (full_in full) (cost_in tables)
  pub costs : (q c : ℕ) → q ≤ place_count p r → i ≤ c → c ≤ j
      → InsideCost (fits_at w) tables full i j (tail_in p r q) c (get_or rows (row_at 0 q c) 0)

-- if the places of rule r from q on cost at most the budget from a to j, inside a span from i to j, then the n nodes written from node `at`
-- on are their first row
pub record RowFirst (p : List ℕ) (rules : ℕ) (fits chart tables full rows : List ℕ) (r q a i j mask budget at : ℕ) (out₀ out : List ℕ)
    (n : ℕ) : Type 0 where
  pub kept : Kept budget at n out₀ out
  pub exact : (w : List ℕ) → BelowGiven p rules fits chart tables full rows r i j mask w → q ≤ place_count p r
      → get_or rows (row_at 0 q a) 0 ≤ budget → FirstAt (Row (Packing p) w (j - i) mask (tail_in p r q) a j budget) out at n

-- the costs over the span from i to j under the mask are right, or they are not made and the first number is more than any cost
pub record MaybeSolved (p : List ℕ) (rules cell mask : ℕ) (tables : List ℕ) (i j : ℕ) (full : List ℕ) : Type 0 where
  pub made : get_or full 0 0 ≤ too_many → Solved p rules cell mask tables i j full

-- what is made for a node within a budget: the costs over its span, its rule (the first one from `from` on), and the costs of its places
pub record NodeOpened (p : List ℕ) (rules : ℕ) (fits chart tables : List ℕ) (from k i j own budget : ℕ) (full rows : List ℕ) (r : ℕ)
    : Type 0 where
  pub room : r < max_rules → 0 < budget
  pub solved : 0 < budget → Solved p rules (cell chart i j) own tables i j full
  pub chosen : 0 < budget → RuleChosen p rules from k full tables i j budget r
  pub costs : r < max_rules → RowsPut p r fits tables full i j rows
