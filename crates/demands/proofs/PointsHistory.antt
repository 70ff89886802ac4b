-- Without learning the grammar remains, so a list of operations leaves what opening with it and taking what remains leaves.
-- Assumes nothing.
use Prim.Native.Nat.{ℕ, ◌≤◌}
use mathlib.Core.Bool.{true}
use mathlib.Core.List.{List}
use mathlib.Core.Path.{◌≡◌, ap, ◌∙◌}
use lib.ListN.{length}
use Rattle.sizes.specs.Sizes.{cells}
use Rattle.theory_points.specs.Machine.{Op, NoLearning, begun, remains_after}
use Rattle.theory_points.specs.Operations.{held_after, Ran, ran}
use Rattle.theory_points.proofs.Kept.{grammar-kept}
use Rattle.grammar.specs.declared.Grammar.{Grammar}
use Rattle.grammar.specs.Valid.{valid_grammar}
use Rattle.grammar.specs.View.{dated}
use Rattle.results.specs.Recognize.{Recognition, open_of, fed}
use Rattle.demands.specs.PointsHistory.{learnt_again, taken_again, LearnHistory, PointsHistory}
use Rattle.demands.proofs.LearnHistory.{learn-history}

module _ (g : Grammar) (y : ℕ) (found : List ℕ) (ops : List Op) (n : NoLearning ops) where
  same-again : learnt_again g y found ops ≡ taken_again g y found ops
  same-again =
      ap (λ (h : Grammar). fed h (open_of (dated h y) found) (remains_after ops (begun g y)).bytes) (grammar-kept ops n (begun g y))

  kept-history : (r : Ran) → LearnHistory g y found ops r → PointsHistory g y found ops r
  kept-history r H = record {
    replied = H.replied;
    bytes = H.bytes ∙ ap (λ (x : Recognition). x.state.bytes) same-again;
    count = H.count ∙ ap (λ (x : Recognition). x.state.count) same-again;
    chart = H.chart ∙ ap (λ (x : Recognition). x.chart) same-again;
    points = H.points;
    grammar = H.grammar ∙ grammar-kept ops n (begun g y);
    year = H.year;
  }

pub points-history : (g : Grammar) (y : ℕ) (found : List ℕ) → valid_grammar g ≡ true → cells ≤ length found → (ops : List Op)
    → NoLearning ops → PointsHistory g y found ops (ran ops (held_after g (open_of (dated g y) found)))
points-history g y found valid room ops n =
    kept-history g y found ops n (ran ops (held_after g (open_of (dated g y) found))) (learn-history g y found valid room ops)
