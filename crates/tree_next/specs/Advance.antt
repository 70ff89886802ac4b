-- What the advance gives, once the tables are made: the numbers of the derivation after the one in the buffer, or that there is none. The
-- promises on an input hold if the tables are right for it and the buffer holds a forest of the set. Assumes nothing.
use Rattle.std.specs.Prelude.{ℕ, ◌+◌, ◌-◌, ◌≤◌, ◌<◌, List, ◌∷◌, ◌≡◌, length}
use Rattle.sets.specs.Set.{insert}
use Rattle.cfg.specs.Grammar.{nonterminal, Of}
use Rattle.cfg.specs.Tree.{Forest, nodes, code}
use Rattle.theory_enumeration.specs.Rows.{Row, Tree}
use Rattle.theory_enumeration.specs.Order.{Last}
use Rattle.theory_choices.specs.Opened.{OpenedRow, OpenedNode}
use Rattle.packed.specs.Packed.{place_count}
use Rattle.tree_size.specs.Standing.{StandsAt}
use Rattle.table_layout.specs.Exact.{Packing}
use Rattle.table_suffix.specs.Within.{tail_in}
use Rattle.tree_first.specs.Descend.{InputGiven, Kept}
use Rattle.tree_later.specs.Beyond.{Frame}
use Rattle.tree_read.specs.Reached.{Ends}
pub use Rattle.tree_later.specs.Beyond.{AfterAt, NextAt}

-- the tree of k over the span from i to j after the one at node `at`
pub record NodeNext (p : List ℕ) (rules : ℕ) (fits chart tables : List ℕ) (k i j mask budget at : ℕ) (buf₀ buf : List ℕ) (n : ℕ)
    : Type 0 where
  pub kept : Kept budget at n buf₀ buf
  pub exact : (w : List ℕ) → InputGiven p rules fits chart tables w → j ≤ length w → (t : Forest)
      → Tree (Packing p) w (j - i) mask k i j budget t → StandsAt buf₀ at (code t)
      → NextAt (Tree (Packing p) w (j - i) mask k i j budget) (code t) buf at n

-- the row of the places of rule r over the span from i to j after the one at node `at`, if its last node moves
pub record LastNext (p : List ℕ) (rules : ℕ) (fits chart tables : List ℕ) (r i j mask budget at : ℕ) (buf₀ buf : List ℕ) (n : ℕ)
    : Type 0 where
  pub kept : Kept budget at n buf₀ buf
  pub none : n ≡ 0 → (w : List ℕ) → InputGiven p rules fits chart tables w → j ≤ length w → (f : Forest)
      → Row (Packing p) w (j - i) mask (tail_in p r 0) i j budget f → StandsAt buf₀ at (code f)
      → Ends p w (j - i) mask r j 0 i budget f
  pub some : 0 < n → (w : List ℕ) → InputGiven p rules fits chart tables w → j ≤ length w → (f : Forest)
      → Row (Packing p) w (j - i) mask (tail_in p r 0) i j budget f → StandsAt buf₀ at (code f)
      → AfterAt (Row (Packing p) w (j - i) mask (tail_in p r 0) i j budget) (code f) buf at n

-- the tree of k over the span from i to j after the one of rule r at node `at`, if the last node of the row below it does not move
pub record Turned (p : List ℕ) (rules : ℕ) (fits chart tables : List ℕ) (r k i j own budget at : ℕ) (buf₀ buf : List ℕ) (n : ℕ)
    : Type 0 where
  pub kept : Kept budget at n buf₀ buf
  pub exact : (w : List ℕ) → InputGiven p rules fits chart tables w → j ≤ length w → (mask : ℕ) → own ≡ insert k mask → (t f : Forest)
      → (o : Of (Packing p) r k) → OpenedNode (Packing p) w (j - i) mask k i j budget o t f → StandsAt buf₀ at (code t)
      → Ends p w (j - i) own r j 0 i (budget - 1) f → NextAt (Tree (Packing p) w (j - i) mask k i j budget) (code t) buf at n

-- the row of the places of rule r from q on, from a to j inside a span from i to j, after the one at node `at`, whose last node does not
-- move
pub record RowNext (p : List ℕ) (rules : ℕ) (fits chart tables : List ℕ) (r q a i j mask budget at : ℕ) (buf₀ full rows buf : List ℕ)
    (n : ℕ) : Type 0 where
  pub kept : Kept budget at n buf₀ buf
  pub frame : Frame p rules fits chart tables r i j mask full rows
  pub exact : (w : List ℕ) → InputGiven p rules fits chart tables w → j ≤ length w → (f : Forest)
      → Row (Packing p) w (j - i) mask (tail_in p r q) a j budget f → StandsAt buf₀ at (code f)
      → Ends p w (j - i) mask r j q a budget f → NextAt (Row (Packing p) w (j - i) mask (tail_in p r q) a j budget) (code f) buf at n

-- the same if place q has a node of k up to b, and the places after it have their last row
pub record ChildNext (p : List ℕ) (rules : ℕ) (fits chart tables : List ℕ) (r q k a b i j mask budget at : ℕ) (buf₀ full rows buf : List ℕ)
    (n : ℕ) : Type 0 where
  pub kept : Kept budget at n buf₀ buf
  pub frame : Frame p rules fits chart tables r i j mask full rows
  pub exact : (w : List ℕ) → InputGiven p rules fits chart tables w → j ≤ length w → q < place_count p r → (f x y : Forest)
      → OpenedRow (Packing p) w (j - i) mask k (tail_in p r (q + 1)) a j budget f b x y
      → Last (Row (Packing p) w (j - i) mask (tail_in p r (q + 1)) b j (budget - nodes x)) (code y) → StandsAt buf₀ at (code x)
      → NextAt (Row (Packing p) w (j - i) mask (nonterminal k ∷ tail_in p r (q + 1)) a j budget) (code f) buf at n
