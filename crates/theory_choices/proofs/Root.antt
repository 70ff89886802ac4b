-- At the root: from the first tree over the whole input to the head of the list L of a grammar G', and when L is empty. The trees are
-- those of a grammar G that gives each number the same rule as G'; the start symbol of G does not matter. Assumes nothing.
use Prim.Native.Nat.{ℕ, ◌≤◌}
use mathlib.Core.List.{List, [], ◌∷◌}
use mathlib.Core.Path.{◌≡◌, refl}
use native.Mathlib.Omega.{arith}
use lib.ListN.{length}
use Rattle.sizes.specs.Sizes.{too_many}
use Rattle.sets.specs.Set.{empty}
use Rattle.cfg.specs.Grammar.{Cfg, Symbol}
use Rattle.cfg.specs.Tree.{Forest, nodes}
use Rattle.cfg.specs.Derivation.{limit}
use Rattle.cfg.specs.Listing.{L}
use Rattle.chart.proofs.SameRules.{SameRules, same-sym}
use Rattle.theory_embedding.proofs.Same.{same-rules-in, fits-same, has_same, superfluous-same}
use Rattle.theory_costs.specs.Span.{bytes_of, Least, TreeOver}
use Rattle.theory_costs.proofs.Span.{least-below}
use Rattle.theory_enumeration.specs.Rows.{Row, Tree, Root}
use Rattle.theory_enumeration.specs.Order.{Min}
use Rattle.theory_enumeration.proofs.Prefixed.{Prefixed, prefixed-first}
use Rattle.theory_enumeration.proofs.Root.{root-first, root_none}
use Rattle.theory_choices.proofs.Ties.{row→plain}

-- ---- the rows of grammars with the same rules

pub row_same : (G G' : Cfg) → SameRules G G' → {w : List ℕ} {cover mask : ℕ} {places : List Symbol} {a b budget : ℕ} {t : Forest}
    → Row G w cover mask places a b budget t → Row G' w cover mask places a b budget t
row_same G G' same r =
    let inside = same-rules-in G G' same in
    record {
      fit = fits-same G G' inside r.fit;
      covers = r.covers;
      plain = λ s. r.plain (superfluous-same G G' inside r.fit s);
      free = λ k h n. r.free k h (has_same G G' inside r.fit n);
      small = r.small;
    }

-- ---- the list L

module _ (G G' : Cfg) (same : SameRules G G') (w : List ℕ) {k : ℕ} (start : k ≡ G'.start) where
  -- the trees of G over the whole input are those of the derivations
  module _ {c n : ℕ} (p : c ≡ length w) (q : n ≡ length w) where
    root-up : (t : Forest) → Tree G w c empty k 0 n limit t → Root G' limit w t
    root-up t r = row_same G G' same (rw (p, q, start) at r)

    pub root-down : (t : Forest) → Root G' limit w t → Tree G w c empty k 0 n limit t
    root-down t r = rw (p, q, start) (row_same G' G (same-sym G G' same) r)

    pub root-into : Prefixed [] (Tree G w c empty k 0 n limit) (Root G' limit w)
    root-into = record {
      up = λ t r. record { forest = t; member = root-up t r; coded = refl };
      down = λ t r. (t, root-down t r, refl);
    }

    pub root-begins : {e : List ℕ} → Min (Tree G w c empty k 0 n limit) e → (m : List (List ℕ)) × (L G' w ≡ e ∷ m)
    root-begins m = root-first G' w (prefixed-first root-into m)

  -- a derivation is a tree of G
  root-tree : {n : ℕ} (t : Forest) → n ≡ length w → Root G' limit w t → TreeOver G (bytes_of w) k 0 n t × (nodes t ≤ limit)
  root-tree t q r = let (((T, _), _), l) = row→plain (omega arith) (omega arith) (root-down refl q t r) in (T, l)

  pub root-barren : {n : ℕ} → n ≡ length w → ((t : Forest) → TreeOver G (bytes_of w) k 0 n t → ⊥) → L G' w ≡ []
  root-barren q f = root_none G' w (λ t r. f t (root-tree t q r).0)

  pub root-exceeds : {n v : ℕ} → n ≡ length w → Least (TreeOver G (bytes_of w) k 0 n) v → too_many ≤ v → L G' w ≡ []
  root-exceeds q X l = root_none G' w (λ t r. let (T, s) = root-tree t q r in omega (arith, least-below X t T))
