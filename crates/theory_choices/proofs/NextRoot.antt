-- At the root: the tree of a member of the list L of a grammar G', and from the tree after it to the member after it. The trees are those
-- of a grammar G that gives each number the same rule as G'; the start symbol of G does not matter. Assumes nothing.
use Prim.Native.Nat.{ℕ, suc, ◌<◌}
use mathlib.Core.List.{List, [], ◌∷◌, ◌++◌, Memᴰ}
use mathlib.Core.Path.{◌≡◌, refl, ap, ◌∙◌}
use native.Mathlib.Omega.{arith}
use lib.ListN.{length, get_or, length-append}
use lib.Seq.{get_or-append_seam}
use Rattle.sets.specs.Set.{empty}
use Rattle.cfg.specs.Grammar.{Cfg}
use Rattle.cfg.specs.Tree.{Forest, code}
use Rattle.cfg.specs.Derivation.{limit}
use Rattle.cfg.specs.Listing.{L}
use Rattle.chart.proofs.SameRules.{SameRules}
use Rattle.theory_listing.proofs.Exact.{listed→derivation}
use Rattle.theory_enumeration.specs.Rows.{Tree}
use Rattle.theory_enumeration.specs.Order.{After, Last}
use Rattle.theory_enumeration.proofs.Prefixed.{prefixed-next, prefixed-last}
use Rattle.theory_enumeration.proofs.Root.{derivation→root, root-next, root-last}
use Rattle.theory_choices.proofs.Root.{root-down, root-into}

-- ---- places in a list

-- the element after x and d
behind-length : (x : List (List ℕ)) (d e : List ℕ) (y : List (List ℕ)) → get_or (x ++ d ∷ e ∷ y) (suc (length x)) [] ≡ e
behind-length [] d e y = refl
behind-length (a ∷ x) d e y = behind-length x d e y

-- ---- the list L

module _ (G G' : Cfg) (same : SameRules G G') (w : List ℕ) {k : ℕ} (start : k ≡ G'.start) {c n : ℕ} (p : c ≡ length w)
    (q : n ≡ length w) where
  -- a member of L is the code of a tree
  pub root_stands : {d : List ℕ} → Memᴰ d (L G' w) → (t : Forest) × Tree G w c empty k 0 n limit t × (code t ≡ d)
  root_stands {d} m =
      let x = derivation→root G' w limit (listed→derivation G' limit w d m) in
      (x.forest, root-down G G' same w start p q x.forest x.member, x.coded)

  -- the tree after it is the next member
  pub root-follows-at : {d e : List ℕ} → Memᴰ d (L G' w) → After (Tree G w c empty k 0 n limit) d e
      → (i : ℕ) × (suc i < length (L G' w)) × (get_or (L G' w) i [] ≡ d) × (get_or (L G' w) (suc i) [] ≡ e)
  root-follows-at {d} {e} m a =
      let (x, y, q) = root-next G' w m (prefixed-next (root-into G G' same w start p q) a) in (
        length x,
        omega (arith, ap length q, length-append x (d ∷ e ∷ y)),
        ap (λ (l : List (List ℕ)). get_or l (length x) []) q ∙ get_or-append_seam x d (e ∷ y) [],
        ap (λ (l : List (List ℕ)). get_or l (suc (length x)) []) q ∙ behind-length x d e y,
      )

  -- without one it is the last member
  pub root-ends-at : {d : List ℕ} → Memᴰ d (L G' w) → Last (Tree G w c empty k 0 n limit) d
      → (i : ℕ) × (suc i ≡ length (L G' w)) × (get_or (L G' w) i [] ≡ d)
  root-ends-at {d} m l =
      let (x, q) = root-last G' w m (prefixed-last (root-into G G' same w start p q) l) in (
        length x,
        omega (arith, ap length q, length-append x (d ∷ [])),
        ap (λ (l : List (List ℕ)). get_or l (length x) []) q ∙ get_or-append_seam x d [] [],
      )
