-- Trees without superfluous recursion, a node at a time: below a node over the whole span its own nonterminal joins the mask. So under
-- that larger mask some rule costs no more than the least number of nodes of a tree. Assumes nothing.
use Prim.Native.Nat.{ℕ, suc, ◌+◌, ◌-◌, ◌≤◌, ◌<◌}
use mathlib.Core.Bool.{false}
use mathlib.Core.List.{[], ◌∷◌, append-nil}
use mathlib.Core.Logic.{dite}
use mathlib.Core.Path.{◌≡◌, refl, sym, ap, ◌∙◌, subst}
use native.Mathlib.Decide.{ℕ_discrete}
use native.Mathlib.Omega.{arith}
use lib.ListN.{length}
use Rattle.sizes.specs.Sizes.{too_many}
use Rattle.laws.proofs.Bools.{bool_false}
use Rattle.sets.specs.Set.{has, insert}
use Rattle.sets.proofs.Laws.{has-insert-other}
use Rattle.cfg.specs.Grammar.{Cfg, nonterminal, Of, Rule}
use Rattle.cfg.specs.Tree.{Forest, end, node, yield, nodes, Fits, fits_end, fits_node}
use Rattle.cfg.specs.Derivation.{Has, has_below, super_here, super_below}
use Rattle.cfg.proofs.Of.{of-same-rule}
use Rattle.chart.specs.Cell.{Fit}
use Rattle.theory_costs.specs.Lowest.{Lowest}
use Rattle.theory_costs.specs.Cut.{Cost}
use Rattle.theory_costs.specs.Span.{Tells, Reads, FreeOver, FreeTree, Least, Inside, Full}
use Rattle.theory_costs.specs.Rule.{NodeCost}
use Rattle.theory_costs.specs.Solve.{PlainRow, PlainTree}
use Rattle.theory_costs.proofs.Span.{reads-length, least-reached, least-below}
use Rattle.theory_costs.proofs.Rows.{row→cut}
use Rattle.theory_costs.proofs.Solve.{tree-whole}
use Rattle.theory_costs.proofs.Plain.{least-plain}

-- a tree is a node and a forest for its rule's places
pub tree-node : {G : Cfg} {k : ℕ} {t : Forest} → Fits G (nonterminal k ∷ []) t
    → (r : ℕ) × (o : Of G r k) × (below : Forest) × Fits G o.the.places below × (t ≡ node r below end)
tree-node (fits_node {r = r} {below = below} o g fits_end) = (r, o, below, g, refl)

under-fits : {G : Cfg} {r k : ℕ} {below : Forest} (o : Of G r k) → Fits G (nonterminal k ∷ []) (node r below end)
    → Fits G o.the.places below
under-fits {G} {below = below} o (fits_node p g fits_end) = subst (λ (ρ : Rule). Fits G ρ.places below) (of-same-rule refl p o) g

module _ {G : Cfg} {bytes : ℕ → ℕ → Type 0} {M n r k a b : ℕ} {below : Forest} (o : Of G r k) (e : b ≡ a + n) where
  -- from the node to the forest below
  pub plain-under : PlainTree G bytes M n k a b (node r below end)
      → (has k M ≡ false) × PlainRow G bytes (insert k M) n o.the.places a b below
  unfolding yield
  plain-under ((R, F), P) = (
    bool_false (has k M) (λ m. F.none k m (tree-whole R.fitted (omega (arith, reads-length R.reads)))),
    (
      (record { fitted = under-fits o R.fitted; reads = subst (Reads bytes b a) (append-nil (yield below)) R.reads }, free),
      λ s. P (super_below s),
    ),
  )
    where
      size : n ≡ length (yield below)
      size = omega (arith, reads-length R.reads, ap length (append-nil (yield below)))

      free : FreeOver G (insert k M) n below
      free = record {
        none = λ l d h. dite (ℕ_discrete l k)
            (λ q. P (super_here o (subst (λ (x : ℕ). Has G k x below) size (subst (λ (x : ℕ). Has G x n below) q h))))
            (λ q. F.none l (sym (has-insert-other l k M q) ∙ d) (has_below h));
      }

-- ---- the cost of a rule

module _ {G : Cfg} {fit : Fit} {bytes : ℕ → ℕ → Type 0} (tells : Tells fit bytes) {M k i j : ℕ} {full : ℕ → ℕ}
    {least : Cost} (h : i ≤ j) (inside : Inside G bytes i j least) (exact : Full G bytes (insert k M) i j full) where
  -- a cost for each tree
  node→cost : {r : ℕ} {below : Forest} (o : Of G r k) → PlainTree G bytes M (j - i) k i j (node r below end)
      → (u : ℕ) × NodeCost fit full least o.the.places i j u × (u ≤ nodes (node r below end))
  unfolding nodes
  node→cost {below = below} o T =
      let (_, ((R, F), P)) = plain-under {a = i} {b = j} o (omega arith) T in
      let (u, c, m) = row→cut G tells (insert k M) i j full least inside (nodes below) (λ x t S _. least-below (exact.at x) t S)
      R.fitted i R.reads F (omega arith) (omega arith) in
      (suc u, record { under = u; cut = c; sum = refl }, omega arith)

  -- some rule costs no more than the least tree, if that has few enough nodes
  pub rule-reaches : {x : ℕ} → Least (FreeTree G bytes M (j - i) k i j) x → x < too_many
      → (r : ℕ) × (o : Of G r k) × ((v : ℕ) → Lowest (NodeCost fit full least o.the.places i j) v → v ≤ x)
  rule-reaches {x} X l =
      let (t, T, m) = least-reached (least-plain X) l in
      let (r, o, f, g, q) = tree-node T.0.0.fitted in
      let (u, p, b) = node→cost o (subst (PlainTree G bytes M (j - i) k i j) q T) in
      let d : nodes t ≡ nodes (node r f end) = ap nodes q in
      (r, o, λ v L. let c = L.below u p in omega arith)
