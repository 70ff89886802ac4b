-- The steps of a node, with premises as its code gives them. Assumes nothing.
use Prim.Native.Nat.{ℕ, ◌+◌, ◌-◌, ◌≤◌, ◌<◌}
use mathlib.Core.List.{List, ◌∷◌}
use mathlib.Core.Path.{◌≡◌, subst}
use native.Mathlib.Omega.{arith}
use lib.ListN.{length}
use Rattle.sizes.specs.Sizes.{max_rules, max_nodes}
use Rattle.sets.specs.Set.{insert}
use Rattle.cfg.specs.Grammar.{Symbol}
use Rattle.chart.specs.Cell.{fits_at}
use Rattle.theory_costs.specs.Span.{bytes_of, FreeTree, Least}
use Rattle.theory_enumeration.specs.Rows.{Row, Tree}
use Rattle.theory_enumeration.specs.Order.{Min}
use Rattle.theory_choices.specs.SpanCosts.{Dearer}
use Rattle.theory_choices.proofs.Node.{node-fresh, node-room, rule-exists, node-step}
use Rattle.packed.proofs.Laws.{of-in}
use Rattle.table_layout.specs.Layout.{cost_in, full_in}
use Rattle.table_layout.specs.Exact.{Packing}
use Rattle.table_suffix.specs.Within.{tail_in}
use Rattle.tree_node.specs.Numbers.{NodePut}
use Rattle.tree_first.specs.Descend.{InputGiven, NodeFirst, RowFirst, NodeOpened}
use Rattle.tree_first.proofs.Codes.{kept-none, kept-open, first-open}
use Rattle.tree_first.proofs.Given.{node-used, passed-dearer}
use Rattle.tree_first.proofs.Opened.{places_of, under, chosen_of, below, row_within}

module _ {p : List ℕ} {rules : ℕ} {fits chart tables : List ℕ} {k i j mask own budget : ℕ} {full rows : List ℕ} {r : ℕ}
    (h : i ≤ j) (small : budget ≤ max_nodes) (e : k < 32 → own ≡ insert k mask)
    (O : NodeOpened p rules fits chart tables 0 k i j own budget full rows r) where
  -- ---- for an input with a tree within the budget

  module _ (w : List ℕ) (G : InputGiven p rules fits chart tables w) (known : j ≤ length w) {x : ℕ}
      (X : Least (FreeTree (Packing p) (bytes_of w) mask (j - i) k i j) x) (l : x ≤ budget) where
    room : 0 < budget
    room = node-room X l (omega arith)

    used : k < 32
    used = node-used p w X (omega arith)

    -- each rule of k before the one chosen costs more than the budget
    dearer : Dearer (Packing p) (fits_at w) i j (full_in full) (cost_in tables) k budget r
    dearer s m o = passed-dearer G h known (O.chosen room).early s (omega arith) m o

    -- so some rule is chosen
    chosen-exists : max_rules ≤ r → ⊥
    chosen-exists m =
        let (s, o, f) = rule-exists mask (under h small O G known room mask (e used)) X l (omega arith) in
        let (u, c, d, g) = of-in 0 p s k o in
        let (v, L, b) = dearer s (omega arith) o in
        let z = f v L in
        omega arith

    first_code : r < max_rules → (y : List ℕ) → Min (Row (Packing p) w (j - i) own (tail_in p r 0) i j (budget - 1)) y
        → Min (Tree (Packing p) w (j - i) mask k i j budget) ((j - i) ∷ r ∷ y)
    first_code m y M =
        let o = chosen_of h small O G known room used m in
        node-step mask (under h small O G known room mask (e used)) o (node-fresh X l (omega arith) h) room dearer
        (subst (λ (z : ℕ). Min (Row (Packing p) w (j - i) z o.the.places i j (budget - 1)) y) (e used)
        (subst (λ (z : List Symbol). Min (Row (Packing p) w (j - i) own z i j (budget - 1)) y) (places_of p r k o) M))

  -- ---- no rule, and a rule

  pub node-none : {at : ℕ} {out : List ℕ} → max_rules ≤ r → NodeFirst p rules fits chart tables k i j mask budget at out out 0
  node-none m = record { kept = kept-none; exact = λ w G known x X l. absurd (chosen-exists w G known X l m) }

  pub node-some : {at : ℕ} {out₀ out₁ out : List ℕ} {n : ℕ} → r < max_rules → NodePut (j - i) r at out₀ out₁
      → RowFirst p rules fits chart tables full rows r 0 i i j own (budget - 1) (at + 1) out₁ out n
      → NodeFirst p rules fits chart tables k i j mask budget at out₀ out (1 + n)
  node-some m P R = record {
    kept = kept-open P (O.room (omega arith)) R.kept;
    exact = λ w G known x X l.
        let n = room w G known X l in
        let u = used w G known X l in
        first-open P (R.exact w (below h small O G known n u m) (omega arith) (row_within h small O G known n u m)) R.kept
        (first_code w G known X l m);
  }
