-- The rows of L: none is empty, each has twice as many numbers as its tree has nodes, at most 1,024, and comes back whole from the front
-- of an output; and L is empty exactly if the input has no tree of at most 512 nodes. Assumes nothing.
use Prim.Native.Nat.{ℕ, zero, suc, ◌≤◌, ◌<◌, ◌*◌, ◌/◌}
use native.Mathlib.Omega.{arith}
use mathlib.Core.List.Memᴰ
use mathlib.Core.List.{List, [], ◌∷◌, ◌++◌, Memᴰ}
use mathlib.Core.Path.{◌≡◌, refl, sym, ap, ◌∙◌}
use lib.ListN.{length, take, drop}
use lib.Seq.{take-append_seam}
use Rattle.sizes.specs.Sizes.{max_nodes, output_size}
use Rattle.cfg.specs.Grammar.{Cfg}
use Rattle.cfg.specs.Tree.{Forest, nodes, Parse, HasTree}
use Rattle.cfg.specs.Derivation.{Derivation, Rising, limit}
use Rattle.cfg.specs.Listing.{L}
use Rattle.theory_listing.proofs.Exact.{listed→derivation, derivation→listed, derivations-rising, listed-not-empty}
use Rattle.theory_listing.proofs.Unique.{length-code}
use Rattle.theory_shrinking.proofs.Shrink.{no-derivation→large}

module _ (G : Cfg) (w : List ℕ) where
  pub L-rising : Rising (L G w)
  L-rising = derivations-rising G limit w

  pub reading-not-empty : Memᴰ [] (L G w) → ⊥
  reading-not-empty = listed-not-empty G limit w

  module _ (e : List ℕ) (i : Memᴰ e (L G w)) where
    reading-nodes : (n : ℕ) × (length e ≡ 2 * n) × (n ≤ max_nodes)
    reading-nodes = let d = listed→derivation G limit w e i in
        (nodes d.tree, ap length (sym d.coded) ∙ length-code d.tree, d.small)

    pub reading-even : 2 * (length e / 2) ≡ length e
    reading-even = let r = reading-nodes in omega arith

    pub reading-short : length e ≤ output_size
    reading-short = let r = reading-nodes in omega arith

    -- the front of the output, twice as many numbers as the reading has nodes, is the reading that was handed out
    pub reading-back : (out : List ℕ) → take (2 * (length e / 2)) (e ++ drop (length e) out) ≡ e
    reading-back out =
        rw reading-even (take-append_seam e (drop (length e) out))

  pub L-none : length (L G w) ≡ 0 → (t : Forest) → Parse G G.start w t → max_nodes < nodes t
  L-none h = no-derivation→large G limit w (λ e d. none (L G w) h (derivation→listed G limit w e d))
    where
      none : (l : List (List ℕ)) → length l ≡ 0 → {e : List ℕ} → Memᴰ e l → ⊥
      none [] q i = Memᴰ.not-nil i
      none (d ∷ l) q i = omega arith

  -- if L has a row, there is a tree of at most 512 nodes
  pub L-some : 0 < length (L G w) → (t : Forest) × Parse G G.start w t × (nodes t ≤ max_nodes)
  L-some h = some (L G w) h (λ e i. listed→derivation G limit w e i)
    where
      some : (l : List (List ℕ)) → 0 < length l → ((e : List ℕ) → Memᴰ e l → Derivation G limit w e)
          → (t : Forest) × Parse G G.start w t × (nodes t ≤ max_nodes)
      some [] q f = absurd (omega arith)
      some (e ∷ l) q f = let d = f e (Memᴰ.head refl) in (d.tree, d.parse, d.small)

  pub L-no-tree : (HasTree G w → ⊥) → length (L G w) ≡ 0
  L-no-tree n = go (length (L G w)) L-some
    where
      go : (k : ℕ) → (0 < k → (t : Forest) × Parse G G.start w t × (nodes t ≤ max_nodes)) → k ≡ 0
      go zero f = refl
      go (suc k) f = let r = f (omega arith) in absurd (n (r.0, r.1))
