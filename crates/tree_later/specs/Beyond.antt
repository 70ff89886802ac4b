-- What comes after the code in a buffer, and what is written if that is a tree with a later rule. The promises on an input hold if the
-- tables are right for it. Assumes nothing.
use Rattle.std.specs.Prelude.{ℕ, ◌+◌, ◌*◌, ◌-◌, ◌≤◌, ◌<◌, Bool, true, List, ◌≢◌, ◌≡◌, length, get_or}
use Rattle.sizes.specs.Sizes.{nonterminals, too_many, side}
use Rattle.sets.specs.Set.{insert}
use Rattle.cfg.specs.Grammar.{Of}
use Rattle.cfg.specs.Tree.{Forest, code}
use Rattle.chart.specs.Cell.{cell}
use Rattle.theory_enumeration.specs.Rows.{Row, Tree}
use Rattle.theory_enumeration.specs.Order.{After, Last}
use Rattle.theory_choices.specs.Opened.{OpenedNode}
use Rattle.packed.specs.Packed.{left_in}
use Rattle.tree_size.specs.Standing.{StandsAt}
use Rattle.table_layout.specs.Layout.{rows_size}
use Rattle.table_layout.specs.Exact.{Packing}
use Rattle.table_suffix.specs.Rows.{RowsPut}
use Rattle.table_solve.specs.Solve.{Solved}
use Rattle.tree_first.specs.Descend.{InputGiven, Kept}

-- ---- the frame of a node

-- the costs over the span from i to j under the mask are made, and so are those of the places of rule r
pub record CostsMade (p : List ℕ) (rules : ℕ) (fits chart tables : List ℕ) (r i j mask : ℕ) (full rows : List ℕ) : Type 0 where
  pub long : length full ≡ nonterminals
  pub room : length rows ≡ rows_size
  pub solved : Solved p rules (cell chart i j) mask tables i j full
  pub costs : RowsPut p r fits tables full i j rows

-- the same, or the costs are not made and the first number is more than any cost
pub record Frame (p : List ℕ) (rules : ℕ) (fits chart tables : List ℕ) (r i j mask : ℕ) (full rows : List ℕ) : Type 0 where
  pub long : length full ≡ nonterminals
  pub room : length rows ≡ rows_size
  pub solved : get_or full 0 0 ≤ too_many → Solved p rules (cell chart i j) mask tables i j full
  pub costs : get_or full 0 0 ≤ too_many → RowsPut p r fits tables full i j rows

-- the costs are made, and `rest` is the cost of the places of rule r after q, from b on
pub record RestMade (p : List ℕ) (rules : ℕ) (fits chart tables : List ℕ) (r i j mask q b : ℕ) (full rows : List ℕ) (rest : ℕ)
    : Type 0 where
  pub made : CostsMade p rules fits chart tables r i j mask full rows
  pub here : rest ≡ get_or rows (side * (q + 1) + b) 0

-- ---- what comes after

-- the numbers of the buffer from node `at` on are the code after d in P, of n nodes
pub record AfterAt (P : Forest → Type 0) (d buf : List ℕ) (at n : ℕ) : Type 0 where
  pub numbers : List ℕ
  pub after : After P d numbers
  pub size : length numbers ≡ 2 * n
  pub here : StandsAt buf at numbers

-- if n is 0, d is the last code of P; else the n nodes from node `at` on are the code after it
pub record NextAt (P : Forest → Type 0) (d buf : List ℕ) (at n : ℕ) : Type 0 where
  pub none : n ≡ 0 → Last P d
  pub some : 0 < n → AfterAt P d buf at n

-- ---- the functions

-- no rule from `from` on and below q is of k
abbrev pub NoRules : List ℕ → ℕ → ℕ → ℕ → Type 0
NoRules p from q k = (s : ℕ) → from ≤ s → s < q → left_in p s ≢ k

-- if b is true, there is no such rule below `rules`
abbrev pub RulesSought : List ℕ → ℕ → ℕ → ℕ → Bool → Type 0
RulesSought p rules from k b = b ≡ true → NoRules p from rules k

-- the tree of k after the one at node `at`, if that one has rule r and the row below it is the last one
pub record LaterRule (p : List ℕ) (rules : ℕ) (fits chart tables : List ℕ) (r k i j own budget at : ℕ) (buf₀ buf : List ℕ) (n : ℕ)
    : Type 0 where
  pub kept : Kept budget at n buf₀ buf
  pub exact : (w : List ℕ) → InputGiven p rules fits chart tables w → j ≤ length w → (mask : ℕ) → own ≡ insert k mask → (t f : Forest)
      → (o : Of (Packing p) r k) → OpenedNode (Packing p) w (j - i) mask k i j budget o t f
      → Last (Row (Packing p) w (j - i) own o.the.places i j (budget - 1)) (code f)
      → NextAt (Tree (Packing p) w (j - i) mask k i j budget) (code t) buf at n
