-- A node of the nonterminal k over c bytes, and the row below it: that may have one node less, and not k over the same bytes. The rule of
-- a node is the number of its layer. Assumes nothing.
use Prim.Native.Nat.{ℕ, ◌+◌, ◌-◌, ◌≤◌, ◌<◌}
use mathlib.Core.Bool.{false}
use mathlib.Core.List.{List, [], ◌∷◌, append-nil}
use mathlib.Core.Path.{◌≡◌, refl, sym, ap, subst, ◌∙◌}
use native.Mathlib.Omega.{arith}
use lib.ListN.{length}
use lib.Seq.{slice, length-slice}
use Rattle.sets.specs.Set.{has, insert}
use Rattle.cfg.specs.Grammar.{Cfg, nonterminal, Of}
use Rattle.cfg.specs.Tree.{Forest, end, node, yield, nodes, code, Fits, fits_end, fits_node}
use Rattle.cfg.specs.Derivation.{Superfluous, super_below}
use Rattle.cfg.proofs.Of.{of-same-rule}
use Rattle.theory_listing.proofs.Sorted.{numbers-sorted}
use Rattle.theory_enumeration.specs.Rows.{Free, Row, Tree, Below, first_rule}
use Rattle.theory_enumeration.specs.Order.{Coded, NoForest}
use Rattle.theory_enumeration.proofs.Layered.{Layered}
use Rattle.theory_enumeration.proofs.Prefixed.{Prefixed}
use Rattle.theory_enumeration.proofs.Free.{node-plain, node-free, node-fresh, below_free}

module _ (G : Cfg) (w : List ℕ) (c mask k from to budget : ℕ) where
  -- the nodes of rule r
  abbrev pub ByRule : ℕ → Forest → Type 0
  ByRule r t = Tree G w c mask k from to budget t × (first_rule t ≡ r)

  -- a node of rule r, and the row below it
  pub record Opened (r : ℕ) (t : Forest) : Type 0 where
    pub of : Of G r k
    pub fresh : has k mask ≡ false
    pub room : 0 < budget
    pub below : Forest
    pub row : Below G w c mask k from to budget of below
    pub coded : code t ≡ c ∷ r ∷ code below

  module _ (size : from + c ≡ to) (known : to ≤ length w) where
    -- the span has c bytes
    span-size : (x : List ℕ) → x ≡ slice from to w → length x ≡ c
    span-size x e = omega (arith, ap length e, length-slice from to w known)

    pub node-opened : (t : Forest) → Tree G w c mask k from to budget t → Opened (first_rule t) t
    unfolding yield nodes code first_rule
    node-opened t a = go a.fit a.covers a.plain a.free a.small
      where
        go : {t : Forest} → Fits G (nonterminal k ∷ []) t → yield t ≡ slice from to w → ¬ Superfluous G t → Free G c mask t
            → nodes t ≤ budget → Opened (first_rule t) t
        go (fits_node {r = r} {below = below} o f fits_end) e s z n =
            let v : yield below ≡ slice from to w = sym (append-nil (yield below)) ∙ e in
            let l : length (yield below) ≡ c = span-size (yield below) v in
            record {
              of = o;
              fresh = node-fresh G c mask k r o below l z;
              room = omega arith;
              below = below;
              row = record {
                fit = f;
                covers = v;
                plain = λ i. s (super_below i);
                free = below_free G c mask k r o below l s z;
                small = omega arith;
              };
              coded = λ i. l i ∷ r ∷ append-nil (code below) i;
            }

    pub node-closed : {r : ℕ} (o : Of G r k) → has k mask ≡ false → 0 < budget → (u : Forest) → Below G w c mask k from to budget o u
        → Coded (ByRule r) (c ∷ r ∷ code u)
    unfolding yield nodes code first_rule
    node-closed {r} o fresh room u a =
        let l : length (yield u) ≡ c = span-size (yield u) a.covers in
        record {
          forest = node r u end;
          member = (
            record {
              fit = fits_node o a.fit fits_end;
              covers = append-nil (yield u) ∙ a.covers;
              plain = node-plain G c mask k r o u l a.plain a.free;
              free = node-free G c mask k r o u l fresh a.free;
              small = omega arith;
            },
            refl,
          );
          coded = λ i. l i ∷ r ∷ append-nil (code u) i;
        }

    -- a node whose rule is known
    pub rule-opened : (r : ℕ) (t : Forest) → ByRule r t → Opened r t
    rule-opened r t a = subst (λ (x : ℕ). Opened x t) a.1 (node-opened t a.0)

    pub node-layered : Layered (Tree G w c mask k from to budget) ByRule
    node-layered = record {
      into = λ r t a. a.0;
      out = λ t a. (first_rule t, (a, refl));
      sorted = λ r s t u l a b. numbers-sorted l (rule-opened r t a).coded (rule-opened s u b).coded;
    }

    pub rule-prefixed : {r : ℕ} (o : Of G r k) → has k mask ≡ false → 0 < budget
        → Prefixed (c ∷ r ∷ []) (Below G w c mask k from to budget o) (ByRule r)
    rule-prefixed {r} o fresh room = record { up = node-closed o fresh room; down = down }
      where
        down : (t : Forest) → ByRule r t → (u : Forest) × Below G w c mask k from to budget o u × (code t ≡ c ∷ r ∷ code u)
        down t a =
            let x = rule-opened r t a in (
              x.below,
              subst (λ y. Row G w c (insert k mask) y.places from to (budget - 1) x.below) (of-same-rule refl x.of o) x.row,
              x.coded,
            )

    -- if no row is below rule r, it has no node
    pub rule-none : (r : ℕ) → ((o : Of G r k) → NoForest (Below G w c mask k from to budget o)) → NoForest (ByRule r)
    rule-none r n t a =
        let x = rule-opened r t a in
        n x.of x.below x.row
