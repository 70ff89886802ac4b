-- Codes in a buffer, what is kept when a part of the buffer is written, and what comes after a code. Assumes nothing.
use Prim.Native.Nat.{ℕ, ◌+◌, ◌*◌, ◌-◌, ◌≤◌, ◌<◌}
use mathlib.Core.List.{List, [], ◌∷◌}
use mathlib.Core.Logic.{dite}
use mathlib.Core.Path.{◌≡◌, ap, ◌∙◌}
use native.Mathlib.Decide.{dec_lt}
use native.Mathlib.Omega.{arith}
use lib.ListN.{length, get_or}
use Rattle.cfg.specs.Grammar.{Cfg, nonterminal}
use Rattle.cfg.specs.Tree.{Forest, nodes, code, Fits, fits_node}
use Rattle.theory_listing.proofs.Unique.{length-code}
use Rattle.theory_enumeration.specs.Rows.{Tree}
use Rattle.theory_enumeration.specs.Order.{Min, After, Last}
use Rattle.tree_size.specs.Standing.{StandsAt}
use Rattle.tree_first.specs.Descend.{Kept}
use Rattle.tree_later.specs.Beyond.{AfterAt, NextAt}

-- the same code in a buffer with the same numbers
pub stands_same : (buf₀ buf : List ℕ) (at : ℕ) (e : List ℕ) → ((x : ℕ) → get_or buf x 0 ≡ get_or buf₀ x 0) → StandsAt buf₀ at e
    → StandsAt buf at e
stands_same buf₀ buf at e K S y h = K (2 * at + y) ∙ S y h

-- ---- trees are not empty

-- a tree has a node
pub tree-nonempty : {G : Cfg} {k : ℕ} {x : Forest} → Fits G (nonterminal k ∷ []) x → 0 < nodes x
unfolding nodes
tree-nonempty (fits_node o b f) = omega arith

-- the first tree of a set has a node
pub first-nonempty : {G : Cfg} {w : List ℕ} {cover mask k a b budget m : ℕ} {e : List ℕ} → Min (Tree G w cover mask k a b budget) e
    → length e ≡ 2 * m → 0 < m
first-nonempty {e = e} M size =
    let t = M.found.forest in
    let d : length (code t) ≡ length e = ap length M.found.coded in
    omega (arith, length-code t, tree-nonempty M.found.member.fit)

-- ---- what is kept

-- if no node is written, every number is kept
pub kept_same : {budget at n : ℕ} {buf₀ buf : List ℕ} → n ≡ 0 → Kept budget at n buf₀ buf → (x : ℕ) → get_or buf x 0 ≡ get_or buf₀ x 0
kept_same {at = at} e K x = dite (dec_lt x (2 * at)) (λ h. K.before x h) (λ h. K.after x (omega arith))

-- n nodes are written after s others
pub kept-behind : {budget at s n : ℕ} {buf₀ buf : List ℕ} → s ≤ budget → Kept (budget - s) (at + s) n buf₀ buf
    → Kept budget at (s + n) buf₀ buf
kept-behind l K = record {
  long = K.long;
  few = omega (arith, K.few);
  before = λ x h. K.before x (omega arith);
  after = λ x h. K.after x (omega arith);
}

-- no node is written, and then n nodes are
pub kept_then : {share budget at₀ at m n : ℕ} {buf₀ buf₁ buf : List ℕ} → m ≡ 0 → Kept share at₀ m buf₀ buf₁ → Kept budget at n buf₁ buf
    → Kept budget at n buf₀ buf
kept_then e K L = record {
  long = L.long ∙ K.long;
  few = L.few;
  before = λ x h. L.before x h ∙ kept_same e K x;
  after = λ x h. L.after x h ∙ kept_same e K x;
}

-- ---- what comes after

module _ {P : Forest → Type 0} {d buf : List ℕ} {at : ℕ} where
  pub next-none : Last P d → NextAt P d buf at 0
  next-none L = record { none = λ _. L; some = λ h. absurd (omega arith) }

  pub next-some : {n : ℕ} → 0 < n → AfterAt P d buf at n → NextAt P d buf at n
  next-some h A = record { none = λ e. absurd (omega arith); some = λ _. A }

  -- the same numbers in another set
  pub next-same : {Q : Forest → Type 0} {c : List ℕ} {n : ℕ} → (Last P d → Last Q c) → ((e : List ℕ) → After P d e → After Q c e)
      → NextAt P d buf at n → NextAt Q c buf at n
  next-same L A N = record {
    none = λ e. L (N.none e);
    some = λ h.
        let S = N.some h in
        record { numbers = S.numbers; after = A S.numbers S.after; size = S.size; here = S.here };
  }
