-- At a node of the nonterminal k over the span from i to j: the first rule whose cost is within the budget is the rule of the first tree.
-- The costs are those under the mask with k in it. Assumes nothing.
use Prim.Native.Nat.{ℕ, suc, ◌-◌, ◌≤◌, ◌<◌}
use mathlib.Core.Bool.{false}
use mathlib.Core.List.{List, ◌∷◌}
use mathlib.Core.Path.{◌≡◌, refl, ap, subst}
use native.Mathlib.Omega.{arith}
use Rattle.sizes.specs.Sizes.{too_many}
use Rattle.sets.specs.Set.{has, insert}
use Rattle.cfg.specs.Grammar.{Cfg, Symbol, Of}
use Rattle.cfg.specs.Tree.{end, node, nodes}
use Rattle.chart.specs.Cell.{Fit}
use Rattle.theory_costs.specs.Lowest.{Lowest}
use Rattle.theory_costs.specs.Cut.{Cost, LeastCut, within}
use Rattle.theory_costs.specs.Span.{bytes_of, FreeTree, Least}
use Rattle.theory_costs.specs.Rule.{NodeCost}
use Rattle.theory_costs.specs.Solve.{PlainTree}
use Rattle.theory_costs.proofs.Span.{least-reached, least-below}
use Rattle.theory_costs.proofs.Rows.{row→cut}
use Rattle.theory_costs.proofs.Plain.{least-plain}
use Rattle.theory_costs.proofs.Nodes.{tree-node, plain-under, rule-reaches}
use Rattle.theory_enumeration.specs.Rows.{Row, Tree, Below}
use Rattle.theory_enumeration.specs.Order.{NoForest, Min}
use Rattle.theory_enumeration.proofs.First.{node-first}
use Rattle.theory_choices.specs.SpanCosts.{SpanCosts, Dearer}
use Rattle.theory_choices.proofs.Ties.{row→plain}

-- ---- from the cost of a rule to that of its places

module _ {fit : Fit} {full : ℕ → ℕ} {least : Cost} {places : List Symbol} {i j v budget : ℕ}
    (L : Lowest (NodeCost fit full least places i j) v) (l : v ≤ budget) (m : budget < too_many) where
  pub rule-row : {u : ℕ} → LeastCut fit (within i j full least) places i j u → u ≤ budget - 1
  rule-row C =
      let p = L.reached (omega arith) in
      let b = C.below p.under p.cut in
      omega arith

-- ---- if a tree has few enough nodes

module _ {G : Cfg} {bytes : ℕ → ℕ → Type 0} {M k i j x budget : ℕ} (X : Least (FreeTree G bytes M (j - i) k i j) x) (l : x ≤ budget)
    (m : budget < too_many) where
  pub node-fresh : i ≤ j → has k M ≡ false
  node-fresh h =
      let (t, T, b) = least-reached (least-plain X) (omega arith) in
      let (r, o, f, g, q) = tree-node T.0.0.fitted in
      (plain-under {a = i} {b = j} o (omega arith) (subst (PlainTree G bytes M (j - i) k i j) q T)).0

  pub node-room : 0 < budget
  unfolding nodes
  node-room =
      let (t, T, b) = least-reached X (omega arith) in
      let (r, o, f, g, q) = tree-node T.0.fitted in
      let d : nodes t ≡ nodes (node r f end) = ap nodes q in
      omega arith

module _ {G : Cfg} {w : List ℕ} {fit : Fit} (M : ℕ) {k i j : ℕ} {full : ℕ → ℕ} {least : Cost}
    (S : SpanCosts G w fit (insert k M) i j full least) where
  -- some rule costs no more than the budget
  pub rule-exists : {x budget : ℕ} → Least (FreeTree G (bytes_of w) M (j - i) k i j) x → x ≤ budget → budget < too_many
      → (r : ℕ) × (o : Of G r k) × ((v : ℕ) → Lowest (NodeCost fit full least o.the.places i j) v → v ≤ budget)
  rule-exists X l m =
      let (r, o, f) = rule-reaches S.tells S.rising S.inside S.exact X (omega arith) in
      (r, o, λ v L. let b = f v L in omega arith)

  -- no row is below a rule that costs more than the budget
  pub rule-below-none : {r v : ℕ} (budget : ℕ) (o : Of G r k) → 0 < budget → Lowest (NodeCost fit full least o.the.places i j) v
      → budget < v → NoForest (Below G w (j - i) M k i j budget o)
  rule-below-none budget o p L d t row =
      let (((R, F), _), s) = row→plain S.known S.rising row in
      let (u, c, n) = row→cut G S.tells (insert k M) i j full least S.inside (nodes t) (λ x y T _. least-below (S.exact.at x) y T)
      R.fitted i R.reads F (omega arith) (omega arith) in
      let b = L.below (suc u) (record { under = u; cut = c; sum = refl }) in
      omega arith

  -- the first rule within the budget is that of the first tree
  pub node-step : {r budget : ℕ} (o : Of G r k) {e : List ℕ} → has k M ≡ false → 0 < budget → Dearer G fit i j full least k budget r
      → Min (Row G w (j - i) (insert k M) o.the.places i j (budget - 1)) e → Min (Tree G w (j - i) M k i j budget) ((j - i) ∷ r ∷ e)
  node-step {r} {budget} o fresh room dear m =
      node-first G w (j - i) M k i j budget (omega arith) S.known r o fresh room
      (λ s l p. let (v, L, b) = dear s l p in rule-below-none budget p room L b) m
