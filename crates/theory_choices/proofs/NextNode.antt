-- The tree after a given one of the nonterminal k over the span from i to j. The row below changes first, then the rule; else the tree is
-- last. The costs are those under the mask with k in it. Assumes nothing.
use Prim.Native.Nat.{ℕ, ◌-◌, ◌≤◌, ◌<◌}
use mathlib.Core.List.{List, ◌∷◌}
use mathlib.Core.Path.{refl}
use native.Mathlib.Omega.{arith}
use lib.ListN.{length}
use Rattle.sets.specs.Set.{insert}
use Rattle.cfg.specs.Grammar.{Cfg, Of}
use Rattle.cfg.specs.Tree.{Forest, code}
use Rattle.chart.specs.Cell.{Fit}
use Rattle.theory_costs.specs.Cut.{Cost}
use Rattle.theory_enumeration.specs.Rows.{Row, Tree, Below}
use Rattle.theory_enumeration.specs.Order.{Coded, Min, After, Last}
use Rattle.theory_enumeration.proofs.Next.{node-next-below, node-next-rule, node-last}
use Rattle.theory_choices.specs.SpanCosts.{SpanCosts, DearerBetween, DearerBeyond}
use Rattle.theory_choices.specs.Opened.{OpenedNode}
use Rattle.theory_choices.proofs.Node.{rule-below-none}

below-coded : {G : Cfg} {w : List ℕ} {M k i j budget r : ℕ} {o : Of G r k} {t f : Forest} → OpenedNode G w (j - i) M k i j budget o t f
    → Coded (Below G w (j - i) M k i j budget o) (code f)
below-coded {f = f} x = record { forest = f; member = x.row; coded = refl }

module _ {G : Cfg} {w : List ℕ} {M k i j budget r : ℕ} {o : Of G r k} {t f : Forest} (known : j ≤ length w) (rising : i ≤ j)
    (x : OpenedNode G w (j - i) M k i j budget o t f) where
  -- the row below has a next one
  pub below-moves : {e : List ℕ} → After (Row G w (j - i) (insert k M) o.the.places i j (budget - 1)) (code f) e
      → After (Tree G w (j - i) M k i j budget) (code t) ((j - i) ∷ r ∷ e)
  below-moves m =
      rw x.coded (node-next-below G w (j - i) M k i j budget (omega arith) known x.fresh x.room r o (below-coded x) m)

module _ {G : Cfg} {w : List ℕ} {fit : Fit} {M k i j : ℕ} {full : ℕ → ℕ} {least : Cost} (S : SpanCosts G w fit (insert k M) i j full least)
    {budget r : ℕ} {o : Of G r k} {t f : Forest} (x : OpenedNode G w (j - i) M k i j budget o t f)
    (below_last : Last (Row G w (j - i) (insert k M) o.the.places i j (budget - 1)) (code f)) where
  -- the row below is last, and the next rule within the budget is s
  pub rule-moves : {s : ℕ} (p : Of G s k) {e : List ℕ} → r < s → DearerBetween G fit i j full least k budget r s
      → Min (Row G w (j - i) (insert k M) p.the.places i j (budget - 1)) e
      → After (Tree G w (j - i) M k i j budget) (code t) ((j - i) ∷ s ∷ e)
  rule-moves {s} p l dear m =
      rw x.coded (node-next-rule G w (j - i) M k i j budget (omega arith) S.known x.fresh x.room r o (below-coded x) below_last
      s p l (λ u y z q. let (v, L, b) = dear u y z q in rule-below-none M S budget q x.room L b) m)

  -- the row below is last, and no later rule is within the budget
  pub node-ends : DearerBeyond G fit i j full least k budget r → Last (Tree G w (j - i) M k i j budget) (code t)
  node-ends dear =
      rw x.coded (node-last G w (j - i) M k i j budget (omega arith) S.known x.fresh x.room r o (below-coded x) below_last
      (λ u y q. let (v, L, b) = dear u y q in rule-below-none M S budget q x.room L b))
