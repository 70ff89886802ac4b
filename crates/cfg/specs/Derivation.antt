-- Superfluous recursion, derivations (document 01: readings) and their order. Assumes nothing.
use Rattle.std.specs.Prelude.{ℕ, ◌≤◌, ◌<◌, List, [], ◌∷◌, ◌≡◌, length}
use Rattle.sizes.specs.Sizes.{max_nodes}
use Rattle.cfg.specs.Grammar.{Cfg, Of}
use Rattle.cfg.specs.Tree.{Forest, leaf, node, yield, nodes, code, Parse}

-- somewhere in the forest, at any depth, there is a node of the nonterminal k that covers n bytes
pub data Has (G : Cfg) (k n : ℕ) : Forest → Type 0 where
  has_here : {r : ℕ} {below rest : Forest} → Of G r k → length (yield below) ≡ n → Has G k n (node r below rest)
  has_below : {r : ℕ} {below rest : Forest} → Has G k n below → Has G k n (node r below rest)
  has_beside : {r : ℕ} {below rest : Forest} → Has G k n rest → Has G k n (node r below rest)
  has_after : {m : ℕ} {rest : Forest} → Has G k n rest → Has G k n (leaf m rest)

-- superfluous recursion: some node has a proper descendant of its own nonterminal over the same bytes.
-- A descendant lies inside its ancestor, so it covers the same bytes exactly if it covers as many; two empty nodes cover the same bytes.
pub data Superfluous (G : Cfg) : Forest → Type 0 where
  super_here : {k r : ℕ} {below rest : Forest} → Of G r k → Has G k (length (yield below)) below → Superfluous G (node r below rest)
  super_below : {r : ℕ} {below rest : Forest} → Superfluous G below → Superfluous G (node r below rest)
  super_beside : {r : ℕ} {below rest : Forest} → Superfluous G rest → Superfluous G (node r below rest)
  super_after : {m : ℕ} {rest : Forest} → Superfluous G rest → Superfluous G (leaf m rest)

-- a derivation (reading): e is the code of a parse tree of the start symbol over the whole of w, without superfluous recursion, with at
-- most b nodes
pub record Derivation (G : Cfg) (b : ℕ) (w e : List ℕ) : Type 0 where
  pub tree : Forest
  pub parse : Parse G G.start w tree
  pub plain : ¬ Superfluous G tree
  pub small : nodes tree ≤ b
  pub coded : code tree ≡ e

-- the limit of document 01 on the parts of a reading
abbrev pub limit : ℕ
limit = max_nodes

-- the order: the first number that differs decides, the smaller first; a list and its own beginning are not in order
infix 4 ◌≺◌
pub data ◌≺◌ : List ℕ → List ℕ → Type 0 where
  first_less : {a b : ℕ} {x y : List ℕ} → a < b → (a ∷ x) ≺ (b ∷ y)
  first_same : {a : ℕ} {x y : List ℕ} → x ≺ y → (a ∷ x) ≺ (a ∷ y)

-- each element of the list is before the next one
pub data Rising : List (List ℕ) → Type 0 where
  rising_none : Rising []
  rising_one : {e : List ℕ} → Rising (e ∷ [])
  rising_more : {d e : List ℕ} {l : List (List ℕ)} → d ≺ e → Rising (e ∷ l) → Rising (d ∷ e ∷ l)
