-- A given row taken apart after its first leaf or its first node, and a given node with the row below it. Assumes nothing.
use Rattle.std.specs.Prelude.{ℕ, suc, ◌+◌, ◌-◌, ◌≤◌, ◌<◌, true, false, List, ◌∷◌, ◌++◌, ◌≡◌, get_or}
use Rattle.sets.specs.Set.{has, insert}
use Rattle.cfg.specs.Grammar.{Cfg, Symbol, Terminal, fits, Of}
use Rattle.cfg.specs.Tree.{Forest, nodes, code}
use Rattle.theory_enumeration.specs.Rows.{Row, Tree}

-- f is a leaf for t at position a and the row g from c on
pub record OpenedLeaf (G : Cfg) (w : List ℕ) (cover mask : ℕ) (t : Terminal) (places : List Symbol) (a j budget : ℕ) (f : Forest) (c : ℕ)
    (g : Forest) : Type 0 where
  pub next : c ≡ suc a
  pub more : a < j
  pub fit : fits t (get_or w a 0) ≡ true
  pub row : Row G w cover mask places c j budget g
  pub coded : code g ≡ code f
  pub counted : nodes g ≡ nodes f

-- f is a node x of k from a to b, and the row y from b on
pub record OpenedRow (G : Cfg) (w : List ℕ) (cover mask k : ℕ) (places : List Symbol) (a j budget : ℕ) (f : Forest) (b : ℕ) (x y : Forest)
    : Type 0 where
  pub rising : a ≤ b
  pub inside : b ≤ j
  pub child : Tree G w cover mask k a b budget x
  pub others : Row G w cover mask places b j (budget - nodes x) y
  pub coded : code f ≡ code x ++ code y
  pub counted : nodes x + nodes y ≡ nodes f
  pub rule : ℕ
  pub later : List ℕ
  pub of : Of G rule k
  pub begins : code x ≡ (b - a) ∷ rule ∷ later

-- t is a node of k from i to j, of rule r, and the row f below it
pub record OpenedNode (G : Cfg) (w : List ℕ) (cover mask k i j budget : ℕ) {r : ℕ} (o : Of G r k) (t f : Forest) : Type 0 where
  pub fresh : has k mask ≡ false
  pub room : 0 < budget
  pub row : Row G w cover (insert k mask) o.the.places i j (budget - 1) f
  pub coded : code t ≡ cover ∷ r ∷ code f
  pub counted : nodes t ≡ suc (nodes f)
