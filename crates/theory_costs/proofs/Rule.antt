-- The cost of a rule over a span, the node included. Over no byte it is one more than its places together. Over any other span it is the
-- smallest of the cost without a child over the whole span and the costs through one such child. Assumes nothing.
use Prim.Native.Nat.{ℕ, zero, suc, ◌+◌, ◌-◌, ◌≤◌, ◌<◌, min}
use mathlib.Core.List.{List, [], ◌∷◌}
use mathlib.Core.Logic.{◌⊎◌, inl, inr}
use mathlib.Core.Option.{some}
use mathlib.Core.Path.{◌≡◌, refl, sym, ap}
use native.Mathlib.Omega.{arith}
use lib.ListN.{length, get_elem?}
use Rattle.sizes.specs.Sizes.{too_many}
use Rattle.laws.proofs.Bools.{clash}
use Rattle.cfg.specs.Grammar.{Symbol, nonterminal, terminal, Terminal}
use Rattle.chart.specs.Cell.{Fit}
use Rattle.theory_costs.specs.Lowest.{Lowest, seen_first, seen_at}
use Rattle.theory_costs.specs.Cut.{Cost, Cut, LeastCut, within}
use Rattle.theory_costs.specs.Rule.{NodeCost, single, together, others, alone, Through, Costs}
use Rattle.theory_costs.proofs.Lowest.{lowest-same, lowest-capped, seen_skip, seen_step}
use Rattle.theory_costs.proofs.Cut.{cut-map}
use Rattle.theory_costs.proofs.Within.{within-whole, within-least}
use Rattle.theory_costs.proofs.Whole.{cut-nothing, nothing-cut, bare→cut, ByWhole, whole-or-bare, whole→cut}

-- ---- all places but one

pub place-within : (places : List Symbol) (q : ℕ) {s : Symbol} → get_elem? places q ≡ some s → q < length places
place-within [] q e = clash cc
place-within (x ∷ places) zero e = omega arith
place-within (x ∷ places) (suc q) e = omega (arith, place-within places q e)

-- all places together are one of them and the others
pub others-total : (cost : ℕ → ℕ) (places : List Symbol) (q : ℕ) {k : ℕ} → get_elem? places q ≡ some (nonterminal k)
    → others cost places q + cost k ≡ together cost places
unfolding others together single
others-total cost [] q e = clash cc
others-total cost (nonterminal n ∷ places) zero {k} e = let p : n ≡ k = cc in let y : cost n ≡ cost k = ap cost p in omega arith
others-total cost (terminal t ∷ places) zero e = clash cc
others-total cost (nonterminal n ∷ places) (suc q) e = omega (arith, others-total cost places q e)
others-total cost (terminal t ∷ places) (suc q) e = omega (arith, others-total cost places q e)

-- ---- the node above a cut

module _ {fit : Fit} {full : ℕ → ℕ} {least : Cost} {places : List Symbol} {i j : ℕ} where
  pub rule-node : {v : ℕ} → LeastCut fit (within i j full least) places i j v
      → Lowest (NodeCost fit full least places i j) (min (suc v) too_many)
  rule-node {v} L = lowest-capped
      (λ l. record { under = v; cut = L.reached (omega arith); sum = refl })
      (λ u p. let h = L.below p.under p.cut in omega arith)

-- the costs of the smaller spans inside count, and no others
pub node-same : {fit : Fit} {full : ℕ → ℕ} {least least' : Cost} {places : List Symbol} {i j v : ℕ}
    → ((k a b : ℕ) → i ≤ a → a ≤ b → b ≤ j → b - a < j - i → least k a b ≡ least' k a b)
    → Lowest (NodeCost fit full least places i j) v → Lowest (NodeCost fit full least' places i j) v
node-same {fit} {full} {least} {least'} {places} {i} {j} f =
    lowest-same (λ u _ p. go least least' f p) (λ u _ p. (u, omega arith, go least' least (λ k a b h l m s. sym (f k a b h l m s)) p))
  where
    go : (from to : Cost) {u : ℕ} → ((k a b : ℕ) → i ≤ a → a ≤ b → b ≤ j → b - a < j - i → from k a b ≡ to k a b)
        → NodeCost fit full from places i j u → NodeCost fit full to places i j u
    go from to g p = record {
      under = p.under;
      cut = cut-map i j p.under (λ k a c _ h l m _. within-least full from to i j k a c h l m (g k a c h l m))
          (omega arith) (omega arith) p.cut;
      sum = p.sum;
    }

-- ---- over no byte

module _ (fit : Fit) (full : ℕ → ℕ) (least : Cost) (places : List Symbol) where
  pub rule-empty : (i : ℕ) → Lowest (NodeCost fit full least places i i) (min (suc (together full places)) too_many)
  rule-empty i = lowest-capped
      (λ l. record {
        under = together full places;
        cut = nothing-cut (λ k. within-whole i i full least k) places (omega arith);
        sum = refl;
      })
      (λ u p. let e = cut-nothing (λ k. within-whole i i full least k) refl p.cut in omega arith)

  -- ---- over a span that is not empty

  module _ {empty : ℕ → ℕ} {i j : ℕ} (h : i < j) (start : (k : ℕ) → least k i i ≡ empty k) (stop : (k : ℕ) → least k j j ≡ empty k) where
    costs→node : (u : ℕ) → u < too_many → Costs fit empty full least places i j (length places) u → NodeCost fit full least places i j u
    unfolding alone
    costs→node u l (seen_first p) =
        record { under = p.under; cut = bare→cut fit full least i j h (omega arith) p.cut; sum = p.sum }
    costs→node u l (seen_at q _ _ p) =
        record {
          under = others empty places q + full p.child;
          cut = whole→cut fit full least i j h start stop places q p.child p.place (omega arith);
          sum = omega arith;
        }

    node→costs : (u : ℕ) → u < too_many → NodeCost fit full least places i j u → Costs fit empty full least places i j (length places) u
    unfolding alone
    node→costs u l p = go (whole-or-bare fit full least i j h start stop refl p.cut)
      where
        go : Cut fit (within i j (λ _. too_many) least) j places i p.under ⊎ ByWhole empty full places p.under
            → Costs fit empty full least places i j (length places) u
        go (inl c) = seen_first (record { under = p.under; cut = c; sum = p.sum })
        go (inr (q, k, e, s)) =
            seen_at q (omega arith) (place-within places q e) (record { child = k; place = e; sum = omega arith })

    pub rule-span : {v : ℕ} → Lowest (Costs fit empty full least places i j (length places)) v
        → Lowest (NodeCost fit full least places i j) v
    rule-span = lowest-same costs→node (λ u l p. (u, omega arith, node→costs u l p))

-- ---- the steps of the loop over the places; it starts at the cost without a child over the whole span, by `Seen-start`

module _ {fit : Fit} {empty full : ℕ → ℕ} {least : Cost} {places : List Symbol} {i j m v : ℕ}
    (L : Lowest (Costs fit empty full least places i j m) v) where
  module _ {k x : ℕ} (e : get_elem? places m ≡ some (nonterminal k)) (s : x ≡ alone empty places m + full k) where
    reached : x < too_many → Through empty full places m x
    reached l = record { child = k; place = e; sum = s }

    below : (u : ℕ) → Through empty full places m u → x ≤ u
    below u p =
        let d : p.child ≡ k = cc p.place in
        let f : full p.child ≡ full k = ap full d in
        omega arith

    pub costs-step : {z : ℕ} → z ≡ min v x → Lowest (Costs fit empty full least places i j (suc m)) z
    costs-step = seen_step (omega arith) L reached below

  -- a terminal is no child
  pub costs-terminal : {t : Terminal} → get_elem? places m ≡ some (terminal t) → Lowest (Costs fit empty full least places i j (suc m)) v
  costs-terminal e = seen_skip (omega arith) L
      (λ l. absurd (omega arith))
      (λ u p. clash (cc p.place))
      L.capped
