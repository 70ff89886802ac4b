-- The steps of a node, with premises as its code gives them: the last node below it moves, or the row below it, or a later rule is written,
-- or it is last. Assumes nothing.
use Prim.Native.Nat.{ℕ, ◌+◌, ◌*◌, ◌-◌, ◌≤◌, ◌<◌}
use mathlib.Core.List.{List, [], ◌∷◌}
use mathlib.Core.Path.{◌≡◌, sym, subst, ◌∙◌}
use native.Mathlib.Omega.{arith}
use lib.ListN.{length, get_or}
use Rattle.sizes.specs.Sizes.{max_rules}
use Rattle.sets.specs.Set.{insert}
use Rattle.cfg.specs.Grammar.{Cfg, Symbol, Of}
use Rattle.cfg.specs.Tree.{Forest, code}
use Rattle.theory_listing.proofs.Unique.{length-code}
use Rattle.theory_enumeration.specs.Rows.{Row, Tree}
use Rattle.theory_enumeration.specs.Order.{After, Last}
use Rattle.theory_choices.specs.Opened.{OpenedNode}
use Rattle.theory_choices.proofs.Stands.{node-rule, node-below}
use Rattle.theory_choices.proofs.NextNode.{below-moves}
use Rattle.packed.proofs.Laws.{of-in, cfg-in-bounded}
use Rattle.tree_size.specs.Standing.{StandsAt}
use Rattle.tree_size.proofs.Stands.{stands-first, stands-behind}
use Rattle.table_layout.specs.Exact.{Packing}
use Rattle.table_suffix.specs.Within.{tail_in}
use Rattle.tree_first.specs.Descend.{InputGiven, Kept}
use Rattle.tree_first.proofs.Codes.{kept-none, stands-join}
use Rattle.tree_first.proofs.Opened.{places_of}
use Rattle.tree_read.specs.Looked.{RuleRead}
use Rattle.tree_read.specs.Reached.{Ends}
use Rattle.tree_next.specs.Advance.{NodeNext, LastNext, Turned, RowNext}
use Rattle.tree_later.specs.Beyond.{AfterAt, NextAt, LaterRule}
use Rattle.tree_later.proofs.Codes.{tree-nonempty, stands_same, kept_same, kept-behind, kept_then, next-some}

-- the second number of a tree in a buffer
second : {G : Cfg} {w : List ℕ} {cover mask k i j budget : ℕ} {t : Forest} (buf : List ℕ) (at : ℕ) → Tree G w cover mask k i j budget t
    → StandsAt buf at (code t) → get_or buf (2 * at + 1) 0 ≡ get_or (code t) 1 0
second {t = t} buf at T S = S 1 (omega (arith, length-code t, tree-nonempty T.fit))

-- what comes after the row below a node comes after the node
module _ (p : List ℕ) {r k i j own budget n : ℕ} (at : ℕ) {buf₀ buf₁ w : List ℕ} (h : i ≤ j) (known : j ≤ length w) {mask : ℕ}
    (e : own ≡ insert k mask) {o : Of (Packing p) r k} {t f : Forest}
    (x : OpenedNode (Packing p) w (j - i) mask k i j budget o t f) where
  pub below-after : StandsAt buf₀ at (code t) → Kept (budget - 1) (at + 1) n buf₀ buf₁
      → AfterAt (Row (Packing p) w (j - i) own (tail_in p r 0) i j (budget - 1)) (code f) buf₁ (at + 1) n
      → AfterAt (Tree (Packing p) w (j - i) mask k i j budget) (code t) buf₁ at (1 + n)
  below-after S K B = record {
    numbers = (j - i) ∷ r ∷ B.numbers;
    after = below-moves known h x
        (subst (λ (z : ℕ). After (Row (Packing p) w (j - i) z o.the.places i j (budget - 1)) (code f) B.numbers) e
        (subst (λ (z : List Symbol). After (Row (Packing p) w (j - i) own z i j (budget - 1)) (code f) B.numbers) (places_of p r k o)
        B.after));
    size = omega (arith, B.size);
    here = stands-join buf₀ buf₁ at 1 ((j - i) ∷ r ∷ []) B.numbers (omega arith)
        (stands-first buf₀ at ((j - i) ∷ r ∷ []) (code f) (subst (StandsAt buf₀ at) x.coded S)) B.here K.before;
  }

-- ---- if the last node of the row below does not move

-- the row below the tree in the buffer, and what comes after it
below_next : {p : List ℕ} {rules : ℕ} {fits chart tables : List ℕ} {r k i j own budget : ℕ} (at : ℕ) {n : ℕ}
    {full rows buf₀ buf₁ w : List ℕ} {mask : ℕ} {t f : Forest} (o : Of (Packing p) r k)
    → RowNext p rules fits chart tables r 0 i i j own (budget - 1) (at + 1) buf₀ full rows buf₁ n
    → InputGiven p rules fits chart tables w → j ≤ length w → own ≡ insert k mask
    → OpenedNode (Packing p) w (j - i) mask k i j budget o t f → StandsAt buf₀ at (code t)
    → Ends p w (j - i) own r j 0 i (budget - 1) f
    → NextAt (Row (Packing p) w (j - i) own (tail_in p r 0) i j (budget - 1)) (code f) buf₁ (at + 1) n
below_next {p} {r = r} {k} {i} {j} {own} {budget} at {buf₀ = buf₀} {w = w} {f = f} o N G known e x S E =
    N.exact w G known f
    (subst (λ (z : List Symbol). Row (Packing p) w (j - i) own z i j (budget - 1) f) (sym (places_of p r k o))
    (subst (λ (z : ℕ). Row (Packing p) w (j - i) z o.the.places i j (budget - 1) f) (sym e) x.row))
    (stands-behind buf₀ at (j - i) r (code f) (subst (StandsAt buf₀ at) x.coded S)) E

module _ {p : List ℕ} {rules : ℕ} {fits chart tables : List ℕ} {r k i j own budget at n : ℕ} {full rows buf₀ buf₁ : List ℕ} (h : i ≤ j)
    (N : RowNext p rules fits chart tables r 0 i i j own (budget - 1) (at + 1) buf₀ full rows buf₁ n) where
  pub turned-moves : 0 < budget → 0 < n → Turned p rules fits chart tables r k i j own budget at buf₀ buf₁ (1 + n)
  turned-moves room l = record {
    kept = kept-behind room N.kept;
    exact = λ w G known mask e t f o x S E.
        next-some (omega arith) (below-after p at h known e x S N.kept ((below_next at o N G known e x S E).some l));
  }

  pub turned-later : {buf : List ℕ} {v : ℕ} → n ≤ 0 → LaterRule p rules fits chart tables r k i j own budget at buf₁ buf v
      → Turned p rules fits chart tables r k i j own budget at buf₀ buf v
  turned-later l L =
      let none : n ≡ 0 = omega arith in
      record {
        kept = kept_then none N.kept L.kept;
        exact = λ w G known mask e t f o x S E.
            L.exact w G known mask e t f o x
            (subst (λ (z : List Symbol). Last (Row (Packing p) w (j - i) own z i j (budget - 1)) (code f)) (places_of p r k o)
            ((below_next at o N G known e x S E).none none));
      }

-- ---- a node

module _ {p : List ℕ} {rules : ℕ} {fits chart tables : List ℕ} {k i j mask budget at r : ℕ} {buf₀ : List ℕ} (h : i ≤ j)
    (A : RuleRead buf₀ at budget r) where
  pub node-none : max_rules ≤ r → NodeNext p rules fits chart tables k i j mask budget at buf₀ buf₀ 0
  node-none m = record {
    kept = kept-none;
    exact = λ w G known t T S.
        let z = A.none (omega arith) (omega (arith, tree-nonempty T.fit, T.small)) in
        let o = node-rule known h (get_or buf₀ (2 * at + 1) 0) T (second buf₀ at T S) in
        absurd (omega (arith, (of-in 0 p (get_or buf₀ (2 * at + 1) 0) k o).0));
  }

  module _ {own : ℕ} (u : k < 32 → own ≡ insert k mask) (m : r < max_rules) {buf₁ : List ℕ} {n : ℕ}
      (N : LastNext p rules fits chart tables r i j own (budget - 1) (at + 1) buf₀ buf₁ n) where
    -- the tree in the buffer, opened, and the row below it
    module _ {w : List ℕ} (known : j ≤ length w) {t : Forest} (T : Tree (Packing p) w (j - i) mask k i j budget t)
        (S : StandsAt buf₀ at (code t)) where
      rule-here : r ≡ get_or (code t) 1 0
      rule-here = A.here (omega arith) ∙ second buf₀ at T S

      of : Of (Packing p) r k
      of = node-rule known h r T rule-here

      opened : (f : Forest) × OpenedNode (Packing p) w (j - i) mask k i j budget of t f
      opened = node-below known h of T rule-here

      set_own : own ≡ insert k mask
      set_own = u (cfg-in-bounded 0 p r k of)

      below_row : Row (Packing p) w (j - i) own (tail_in p r 0) i j (budget - 1) opened.0
      below_row =
          subst (λ (z : List Symbol). Row (Packing p) w (j - i) own z i j (budget - 1) opened.0) (sym (places_of p r k of))
          (subst (λ (z : ℕ). Row (Packing p) w (j - i) z of.the.places i j (budget - 1) opened.0) (sym set_own)
          opened.1.row)

      below-stands : StandsAt buf₀ (at + 1) (code opened.0)
      below-stands =
          stands-behind buf₀ at (j - i) r (code opened.0) (subst (StandsAt buf₀ at) opened.1.coded S)

    pub node-last-moves : 0 < n → NodeNext p rules fits chart tables k i j mask budget at buf₀ buf₁ (1 + n)
    node-last-moves l = record {
      kept = kept-behind (A.room (omega arith)) N.kept;
      exact = λ w G known t T S.
          next-some (omega arith) (below-after p at h known (set_own known T S) (opened known T S).1 S N.kept
          (N.some l w G known (opened known T S).0 (below_row known T S) (below-stands known T S)));
    }

    pub node-turned : {buf : List ℕ} {v : ℕ} → n ≤ 0 → Turned p rules fits chart tables r k i j own budget at buf₁ buf v
        → NodeNext p rules fits chart tables k i j mask budget at buf₀ buf v
    node-turned l L =
        let none : n ≡ 0 = omega arith in
        record {
          kept = kept_then none N.kept L.kept;
          exact = λ w G known t T S.
              L.exact w G known mask (set_own known T S) t (opened known T S).0 (of known T S) (opened known T S).1
              (stands_same buf₀ buf₁ at (code t) (kept_same none N.kept) S)
              (N.none none w G known (opened known T S).0 (below_row known T S) (below-stands known T S));
        }
