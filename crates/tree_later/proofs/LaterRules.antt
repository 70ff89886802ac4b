-- A later rule at a node, with premises as the code gives them. Assumes nothing.
use Prim.Native.Nat.{ℕ, ◌+◌, ◌-◌, ◌≤◌, ◌<◌}
use mathlib.Core.List.{List, [], ◌∷◌}
use mathlib.Core.Logic.{◌≢◌, dite}
use mathlib.Core.Path.{◌≡◌, refl, sym, ap, subst, ◌∙◌}
use native.Mathlib.Decide.{ℕ_discrete}
use native.Mathlib.Omega.{arith}
use lib.ListN.{length}
use Rattle.sizes.specs.Sizes.{max_rules, max_nodes}
use Rattle.sets.specs.Set.{insert}
use Rattle.cfg.specs.Grammar.{Symbol, Of}
use Rattle.cfg.specs.Tree.{Forest, code}
use Rattle.chart.specs.Cell.{fits_at}
use Rattle.theory_enumeration.specs.Rows.{Row, Tree}
use Rattle.theory_enumeration.specs.Order.{Min, After, Last}
use Rattle.theory_enumeration.proofs.Next.{node-last}
use Rattle.theory_choices.specs.SpanCosts.{SpanCosts}
use Rattle.theory_choices.specs.Opened.{OpenedNode}
use Rattle.theory_choices.proofs.NextNode.{rule-moves, node-ends}
use Rattle.packed.specs.Packed.{left_in}
use Rattle.packed.proofs.Laws.{of-in, cfg-in-bounded}
use Rattle.table_layout.specs.Layout.{cost_in, full_in}
use Rattle.table_layout.specs.Exact.{Packing}
use Rattle.table_suffix.specs.Within.{tail_in}
use Rattle.tree_node.specs.Numbers.{NodePut}
use Rattle.tree_first.specs.Descend.{InputGiven, RowFirst, NodeOpened}
use Rattle.tree_first.proofs.Codes.{kept-none, kept-open, stands-join, first-stands, put-stands}
use Rattle.tree_first.proofs.Given.{passed-dearer, rule-before}
use Rattle.tree_first.proofs.Opened.{places_of, under, chosen_of, below, row_within}
use Rattle.tree_later.specs.Beyond.{NoRules, LaterRule}
use Rattle.tree_later.proofs.Codes.{next-none, next-some}

-- ---- no later rule

pub none_yet : (p : List ℕ) (from k : ℕ) → NoRules p from from k
none_yet p from k s u v e = absurd (omega arith)

pub none_more : (p : List ℕ) {from q k l : ℕ} → NoRules p from q k → l ≡ left_in p q → l ≢ k → NoRules p from (q + 1) k
none_more p {q = q} N e d s u v = dite (ℕ_discrete s q)
    (λ x f. d (e ∙ sym (ap (left_in p) x) ∙ f))
    (λ x. let z : ¬ (s ≡ q) = x in N s u (omega arith))

pub later-absent : {p : List ℕ} {rules : ℕ} {fits chart tables : List ℕ} {r k i j own budget at : ℕ} {buf : List ℕ} → i ≤ j
    → NoRules p (r + 1) rules k → LaterRule p rules fits chart tables r k i j own budget at buf buf 0
later-absent {p} {rules} {fits} {chart} {tables} {r} {k} {i} {j} {budget = budget} h N = record {
  kept = kept-none;
  exact = λ w G known mask e t f o x last.
      next-none (subst (Last (Tree (Packing p) w (j - i) mask k i j budget)) (sym x.coded)
      (node-last (Packing p) w (j - i) mask k i j budget (omega arith) known x.fresh x.room r o
      (record { forest = f; member = x.row; coded = refl })
      (subst (λ (z : ℕ). Last (Row (Packing p) w (j - i) z o.the.places i j (budget - 1)) (code f)) e last)
      (λ q u z. absurd (none G q u z))));
}
  where
    none : {w : List ℕ} → InputGiven p rules fits chart tables w → (q : ℕ) → r < q → Of (Packing p) q k → ⊥
    none G q u o = let (a, b, c, d) = of-in 0 p q k o in N q (omega arith) (rule-before p rules G.past q a c) b

-- ---- a rule within the budget, or none

module _ {p : List ℕ} {rules : ℕ} {fits chart tables : List ℕ} {r k i j own budget : ℕ} {full rows : List ℕ} {s : ℕ}
    (h : i ≤ j) (small : budget ≤ max_nodes) (O : NodeOpened p rules fits chart tables (r + 1) k i j own budget full rows s) where
  module _ {w : List ℕ} (G : InputGiven p rules fits chart tables w) (known : j ≤ length w) {mask : ℕ} (e : own ≡ insert k mask)
      {t f : Forest} {o : Of (Packing p) r k} (x : OpenedNode (Packing p) w (j - i) mask k i j budget o t f)
      (last : Last (Row (Packing p) w (j - i) own o.the.places i j (budget - 1)) (code f)) where
    costs : SpanCosts (Packing p) w (fits_at w) (insert k mask) i j (full_in full) (cost_in tables)
    costs = under h small O G known x.room mask e

    last_under : Last (Row (Packing p) w (j - i) (insert k mask) o.the.places i j (budget - 1)) (code f)
    last_under = subst (λ (z : ℕ). Last (Row (Packing p) w (j - i) z o.the.places i j (budget - 1)) (code f)) e last

    none-later : max_rules ≤ s → Last (Tree (Packing p) w (j - i) mask k i j budget) (code t)
    none-later m = node-ends costs x last_under
        (λ q u z. passed-dearer G h known (O.chosen x.room).early q (omega arith) (omega (arith, (of-in 0 p q k z).0)) z)

    later-after : s < max_rules → (y : List ℕ) → Min (Row (Packing p) w (j - i) own (tail_in p s 0) i j (budget - 1)) y
        → After (Tree (Packing p) w (j - i) mask k i j budget) (code t) ((j - i) ∷ s ∷ y)
    later-after m y M =
        let C = O.chosen x.room in
        let z = C.early.start in
        let v = chosen_of h small O G known x.room (cfg-in-bounded 0 p r k o) m in
        rule-moves costs x last_under v (omega arith)
        (λ q a b u. passed-dearer G h known C.early q (omega arith) b u)
        (subst (λ (z : ℕ). Min (Row (Packing p) w (j - i) z v.the.places i j (budget - 1)) y) e
        (subst (λ (z : List Symbol). Min (Row (Packing p) w (j - i) own z i j (budget - 1)) y) (places_of p s k v) M))

  pub later-none : {at : ℕ} {buf : List ℕ} → max_rules ≤ s → LaterRule p rules fits chart tables r k i j own budget at buf buf 0
  later-none m = record { kept = kept-none; exact = λ w G known mask e t f o x last. next-none (none-later G known e x last m) }

  pub later-some : {at : ℕ} {buf₀ buf₁ buf : List ℕ} {n : ℕ} → s < max_rules → NodePut (j - i) s at buf₀ buf₁
      → RowFirst p rules fits chart tables full rows s 0 i i j own (budget - 1) (at + 1) buf₁ buf n
      → LaterRule p rules fits chart tables r k i j own budget at buf₀ buf (1 + n)
  later-some {at = at} {buf₁ = buf₁} {buf = buf} m P R = record {
    kept = kept-open P (O.room (omega arith)) R.kept;
    exact = λ w G known mask e t f o x last.
        let u = cfg-in-bounded 0 p r k o in
        let F = R.exact w (below h small O G known x.room u m) (omega arith) (row_within h small O G known x.room u m) in
        next-some (omega arith) (record {
          numbers = (j - i) ∷ s ∷ F.code;
          after = later-after G known e x last m F.code F.first;
          size = omega (arith, F.size);
          here = stands-join buf₁ buf at 1 ((j - i) ∷ s ∷ []) F.code (omega arith) (put-stands P) (first-stands F) R.kept.before;
        });
  }
