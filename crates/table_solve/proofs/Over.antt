-- The cost of a rule over a span, by the test that the code makes, and whether a number is wanted. Assumes nothing.
use Prim.Native.Nat.{ℕ, suc, ◌≤◌, ◌<◌, min}
use mathlib.Core.Bool.{Bool, true, false, not, true≢false}
use mathlib.Core.List.{List}
use mathlib.Core.Path.{◌≡◌, sym, subst, ◌∙◌}
use native.Mathlib.Omega.{arith}
use Rattle.sizes.specs.Sizes.{too_many, max_rules}
use Rattle.sets.specs.Set.{has}
use Rattle.chart.specs.Cell.{Fit}
use Rattle.theory_costs.specs.Cut.{Cost}
use Rattle.theory_costs.specs.Lowest.{Lowest}
use Rattle.theory_costs.specs.Rule.{NodeCost, BareCost, together}
use Rattle.theory_costs.proofs.Rule.{rule-empty}
use Rattle.packed.specs.Packed.{left_in, places_in}
use Rattle.table_layout.specs.Layout.{full_in, bare_in}
use Rattle.table_rule.specs.Rule.{RuleKnown, OfRule}
use Rattle.table_layout.specs.Exact.{SpanReady}
use Rattle.table_solve.specs.Solve.{RuleOver, Wanted}

-- ---- the cost of a rule

module _ (p : List ℕ) (r : ℕ) (full tables : List ℕ) (i j : ℕ) where
  known : {bare : ℕ} (fit : Fit) (least : Cost) → i < j → r < max_rules → left_in p r < 32 → bare ≡ bare_in tables i j r
      → (R : SpanReady fit least p tables i j) → RuleKnown fit R.empty least i j p r tables bare
  known fit least h l m e R = record {
    span = h;
    start = R.start;
    stop = R.stop;
    beside = R.beside r l;
    without = subst (Lowest (BareCost fit least (places_in p r) i j)) (sym e) (R.without r l m);
  }

  pub over-span : {bare v : ℕ} → i < j → r < max_rules → bare ≡ bare_in tables i j r → OfRule p r full tables bare v
      → RuleOver p r full tables i j v
  over-span h l e S = record {
    exact = λ m fit least R. S.exact fit (R h).empty least i j (known fit least h l m e (R h));
  }

  pub over-empty : {v : ℕ} → i ≤ j → j ≤ i → v ≡ min (suc (together (full_in full) (places_in p r))) too_many → RuleOver p r full tables i j v
  over-empty {v} h l e =
      let d : i ≡ j = omega arith in
      record {
        exact = λ m fit least R.
            subst (λ (x : ℕ). Lowest (NodeCost fit (full_in full) least (places_in p r) i x) v) d
            (rw e (rule-empty fit (full_in full) least (places_in p r) i));
      }

-- ---- whether a number is wanted

module _ (k cell mask : ℕ) where
  pub wanted-masked : {b d : Bool} → b ≡ has k cell → b ≡ true → d ≡ has k mask → Wanted k cell mask (not d)
  wanted-masked {d = true} e t f = record { taken = λ x. absurd (true≢false (sym x)); left = λ _ _ x. true≢false (f ∙ x) }
  wanted-masked {d = false} e t f = record { taken = λ _. (sym e ∙ t, sym f); left = λ x _ _. true≢false x }

  pub wanted-barren : {b : Bool} → b ≡ has k cell → b ≡ false → Wanted k cell mask false
  wanted-barren e t = record { taken = λ x. absurd (true≢false (sym x)); left = λ _ x _. true≢false (sym x ∙ sym e ∙ t) }
