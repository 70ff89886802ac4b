-- The last node of a row in a buffer: the one with only terminals after it. Nothing after it moves, so what comes after the node comes
-- after the row. If the node does not move, it remains known that it is the last one. Assumes nothing.
use Rattle.std.specs.Prelude.{ℕ, ◌+◌, ◌*◌, ◌-◌, ◌≤◌, ◌<◌, true, false, List, ◌≡◌, length, get_or, Option, Some, None}
use Rattle.cfg.specs.Tree.{Forest, nodes, code}
use Rattle.theory_enumeration.specs.Rows.{Row, Tree}
use Rattle.theory_enumeration.specs.Order.{Last}
use Rattle.theory_choices.specs.Opened.{OpenedLeaf, OpenedRow}
use Rattle.packed.specs.Packed.{place_count, is_nonterminal_in, value_in, terminal_in}
use Rattle.tree_size.specs.Standing.{StandsAt}
use Rattle.table_layout.specs.Exact.{Packing}
use Rattle.table_suffix.specs.Within.{tail_in}
use Rattle.tree_later.specs.Beyond.{AfterAt}
use Rattle.tree_read.specs.declared.reach.Found.{Found}
use Rattle.tree_read.specs.Looked.{LeavesIn}

-- the row f of the places of rule r from q on, from a to j, has no last node, or no tree comes after that node
pub data Ends (p w : List ℕ) (cover mask r j : ℕ) : ℕ → ℕ → ℕ → Forest → Type 0 where
  ends_none : {q a budget : ℕ} {f : Forest} → place_count p r ≤ q → Ends p w cover mask r j q a budget f
  ends_leaf : {q a budget : ℕ} {f : Forest} (g : Forest) → is_nonterminal_in p r q ≡ false
      → OpenedLeaf (Packing p) w cover mask (terminal_in p r q) (tail_in p r (q + 1)) a j budget f (a + 1) g
      → Ends p w cover mask r j (q + 1) (a + 1) budget g → Ends p w cover mask r j q a budget f
  ends_node : {q a budget : ℕ} {f : Forest} (b : ℕ) (x y : Forest) → is_nonterminal_in p r q ≡ true
      → (LeavesIn p r (q + 1) (place_count p r) → ⊥)
      → OpenedRow (Packing p) w cover mask (value_in p r q) (tail_in p r (q + 1)) a j budget f b x y
      → Ends p w cover mask r j (q + 1) b (budget - nodes x) y → Ends p w cover mask r j q a budget f
  ends_last : {q a budget : ℕ} {f : Forest} → is_nonterminal_in p r q ≡ true → LeavesIn p r (q + 1) (place_count p r)
      → Last (Row (Packing p) w cover mask (tail_in p r q) a j budget) (code f) → Ends p w cover mask r j q a budget f

-- the last node of f is a node of k from c to b, stored at node `to`; what comes after it, with the same numbers before it, comes after f
pub record LastNode (p w : List ℕ) (cover mask r q a j budget : ℕ) (f : Forest) (buf : List ℕ) (at k c b to share : ℕ) : Type 0 where
  pub tree : Forest
  pub child : Tree (Packing p) w cover mask k c b share tree
  pub here : StandsAt buf to (code tree)
  pub last : Last (Tree (Packing p) w cover mask k c b share) (code tree) → Ends p w cover mask r j q a budget f
  pub moves : (buf₁ : List ℕ) (n : ℕ) → ((y : ℕ) → y < 2 * to → get_or buf₁ y 0 ≡ get_or buf y 0)
      → AfterAt (Tree (Packing p) w cover mask k c b share) (code tree) buf₁ to n
      → AfterAt (Row (Packing p) w cover mask (tail_in p r q) a j budget) (code f) buf₁ at (to - at + n)

-- where the last node of the row at node `at` is stored, and what is left of the budget for it
pub data LastReached (p : List ℕ) (r q : ℕ) (buf : List ℕ) (at a j budget : ℕ) : Option Found → Type 0 where
  nowhere : ((w : List ℕ) (cover mask : ℕ) (f : Forest) → j ≤ length w → Row (Packing p) w cover mask (tail_in p r q) a j budget f
      → StandsAt buf at (code f) → Ends p w cover mask r j q a budget f) → LastReached p r q buf at a j budget None
  there : {m : Found} → a ≤ m.a → m.a ≤ m.b → m.b ≤ j → at ≤ m.at → m.at + m.budget ≡ at + budget
      → ((w : List ℕ) (cover mask : ℕ) (f : Forest) → j ≤ length w → Row (Packing p) w cover mask (tail_in p r q) a j budget f
      → StandsAt buf at (code f) → LastNode p w cover mask r q a j budget f buf at m.k m.a m.b m.at m.budget)
      → LastReached p r q buf at a j budget (Some m)
