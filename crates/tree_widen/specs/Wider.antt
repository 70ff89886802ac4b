-- What is written if the next row begins with a wider node, and what follows a node that has moved. The promises on an input hold if the
-- tables are right for it. Assumes nothing.
use Rattle.std.specs.Prelude.{ℕ, ◌+◌, ◌*◌, ◌-◌, ◌≤◌, ◌<◌, List, ◌∷◌, ◌≡◌, length, get_or}
use Rattle.sizes.specs.Sizes.{side}
use Rattle.cfg.specs.Grammar.{nonterminal}
use Rattle.cfg.specs.Tree.{Forest, nodes, code}
use Rattle.theory_enumeration.specs.Rows.{Row, Tree, SameSpan}
use Rattle.theory_enumeration.specs.Order.{Last}
use Rattle.theory_choices.specs.Opened.{OpenedRow}
use Rattle.packed.specs.Packed.{place_count}
use Rattle.table_layout.specs.Exact.{Packing}
use Rattle.table_suffix.specs.Within.{tail_in}
use Rattle.tree_first.specs.Descend.{InputGiven, Kept, RowFirst}
use Rattle.tree_later.specs.Beyond.{CostsMade, NextAt}

-- the row of the places of rule r from q on, from a to j inside a span from i to j, after a row f that begins with a node of k up to b, if
-- the places after that node have their last row, and the node is the last one within what the least row of those places leaves
pub record Widened (p : List ℕ) (rules : ℕ) (fits chart tables full rows : List ℕ) (r q k a b i j mask budget at : ℕ)
    (buf₀ buf : List ℕ) (n : ℕ) : Type 0 where
  pub kept : Kept budget at n buf₀ buf
  pub exact : CostsMade p rules fits chart tables r i j mask full rows → (w : List ℕ) → InputGiven p rules fits chart tables w
      → j ≤ length w → q < place_count p r → (f x y : Forest)
      → OpenedRow (Packing p) w (j - i) mask k (tail_in p r (q + 1)) a j budget f b x y
      → Last (Row (Packing p) w (j - i) mask (tail_in p r (q + 1)) b j (budget - nodes x)) (code y)
      → (own : ℕ) → SameSpan (j - i) mask (b - a) own
      → Last (Tree (Packing p) w (b - a) own k a b (budget - get_or rows (side * (q + 1) + b) 0)) (code x)
      → NextAt (Row (Packing p) w (j - i) mask (nonterminal k ∷ tail_in p r (q + 1)) a j budget) (code f) buf at n

-- if the node at place q has moved to m nodes, the first row of the places after it follows; if m is 0, a wider node is written
pub record Moved (p : List ℕ) (rules : ℕ) (fits chart tables full rows : List ℕ) (r q k a b i j mask budget at m : ℕ)
    (buf₀ buf : List ℕ) (n : ℕ) : Type 0 where
  pub rest : 0 < m → (s : ℕ) × (n ≡ m + s)
      × RowFirst p rules fits chart tables full rows r (q + 1) b i j mask (budget - m) (at + m) buf₀ buf s
  pub wider : m ≡ 0 → Widened p rules fits chart tables full rows r q k a b i j mask budget at buf₀ buf n
