-- The forests among which the enumerator looks for the first and the next one. A span is the positions `from` to `to` of one input w; sets
-- of nonterminals are words of crate sets. Assumes nothing.
use Rattle.std.specs.Prelude.{ℕ, ◌+◌, ◌-◌, ◌≤◌, true, List, [], ◌∷◌, ◌≢◌, ◌≡◌, length}
use Rattle.std.proofs.Math.Seq.{slice}
use Rattle.sets.specs.Set.{has, insert, empty}
use Rattle.cfg.specs.Grammar.{Cfg, Symbol, nonterminal, Of}
use Rattle.cfg.specs.Tree.{Forest, end, leaf, node, yield, nodes, Fits}
use Rattle.cfg.specs.Derivation.{Has, Superfluous}

-- no node of the forest over `cover` bytes has a nonterminal of the mask
abbrev pub Free : Cfg → ℕ → ℕ → Forest → Type 0
Free G cover mask t = (k : ℕ) → has k mask ≡ true → Has G k cover t → ⊥

-- t fits the places over the span, has no superfluous recursion and at most `budget` nodes, and is free of the mask over `cover` bytes
pub record Row (G : Cfg) (w : List ℕ) (cover mask : ℕ) (places : List Symbol) (from to budget : ℕ) (t : Forest) : Type 0 where
  pub fit : Fits G places t
  pub covers : yield t ≡ slice from to w
  pub plain : ¬ Superfluous G t
  pub free : Free G cover mask t
  pub small : nodes t ≤ budget

-- the same for one node of the nonterminal k
abbrev pub Tree : Cfg → List ℕ → ℕ → ℕ → ℕ → ℕ → ℕ → ℕ → Forest → Type 0
Tree G w cover mask k from to budget = Row G w cover mask (nonterminal k ∷ []) from to budget

-- the rows below a node over c bytes of rule r, a rule of k: the budget is one node smaller, and k joins the mask
abbrev pub Below : (G : Cfg) → List ℕ → ℕ → ℕ → (k : ℕ) → ℕ → ℕ → ℕ → {r : ℕ} → Of G r k → Forest → Type 0
Below G w c mask k from to budget o = Row G w c (insert k mask) o.the.places from to (budget - 1)

-- the trees of the derivations of w
abbrev pub Root : Cfg → ℕ → List ℕ → Forest → Type 0
Root G budget w = Tree G w (length w) empty G.start 0 (length w) budget

-- how many bytes the first node covers, in a forest that begins with a node
unfoldable pub first_cover : Forest → ℕ
first_cover end = 0
first_cover (leaf m rest) = 0
first_cover (node r below rest) = length (yield below)

-- the rule of the first node, in a forest that begins with a node
unfoldable pub first_rule : Forest → ℕ
first_rule end = 0
first_rule (leaf m rest) = 0
first_rule (node r below rest) = r

-- no row of k and the places within the budget begins with a node over c bytes
abbrev pub Skipped : Cfg → List ℕ → ℕ → ℕ → ℕ → List Symbol → ℕ → ℕ → ℕ → ℕ → Type 0
Skipped G w cover mask k places from to budget c = (x y : Forest) → Tree G w cover mask k from (from + c) budget x
    → Row G w cover mask places (from + c) to (budget - nodes x) y → ⊥

-- `share` is what a first node over c bytes may cost: it is within the budget, and no first node that some rest completes has more
pub record Share (G : Cfg) (w : List ℕ) (cover mask k : ℕ) (places : List Symbol) (from to budget c share : ℕ) : Type 0 where
  pub within : share ≤ budget
  pub enough : (x y : Forest) → Tree G w cover mask k from (from + c) budget x
      → Row G w cover mask places (from + c) to (budget - nodes x) y → nodes x ≤ share

-- `own` is the part of a mask over `cover` bytes that matters for a node over c bytes: all of it if c is `cover`, else nothing
pub record SameSpan (cover mask c own : ℕ) : Type 0 where
  pub same : c ≡ cover → own ≡ mask
  pub other : c ≢ cover → own ≡ empty
