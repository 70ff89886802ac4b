-- Whether a point is past a count, as check 14 says it. Assumes nothing.
use Prim.Native.Nat.{ℕ, ◌+◌, ◌≤◌, ◌<◌}
use native.Mathlib.Decide.{dec_lt}
use native.Mathlib.Omega.{arith}
use mathlib.Core.Bool.{Bool, not}
use mathlib.Core.List.{List, []}
use mathlib.Core.Logic.{inr, ⊎_elim, dite}
use mathlib.Core.Path.{◌≡◌, ◌∙◌}
use lib.ListN.{length, get_or, get_or-eq_default}
use borrow.Author.Tests.{le-ltb}
use Rattle.std.proofs.Common.{◌↔◌, IsTrue, SomeIndex}
use Rattle.sizes.specs.Sizes.{max_input}
use Rattle.laws.proofs.Bools.{bool-ext}
use Rattle.results.specs.Recognize.{State, state_with, points_within, state_check}
use Rattle.results.proofs.State.{state-refused, refused-state}

module _ (n : ℕ) (points : List ℕ) (few : n ≤ max_input) where
  -- a state with these points, of which check 14 says the same
  abbrev hand : State
  hand = state_with [] n 0 points

  check-past : (state_check hand).fails ≡ not (points_within n points)
  check-past = rw (le-ltb max_input n few)

  -- some point is past the count
  abbrev pub SomePast : Type 0
  SomePast = SomeIndex points (λ k. n + 1 < get_or points k 0)

  pub past-is : (b : Bool) → IsTrue b ↔ SomePast → b ≡ not (points_within n points)
  past-is b iff = bool-ext b (state_check hand).fails
      (λ e. let p = iff.0 e in refused-state hand (inr (p.0, p.2)))
      (λ e. ⊎_elim (λ o. absurd (omega arith)) (λ p. iff.1 (p.0, within p.0 p.1, p.1)) (state-refused hand e))
      ∙ check-past
    where
      within : (k : ℕ) → n + 1 < get_or points k 0 → k < length points
      within k o = dite (dec_lt k (length points)) (λ g. g)
          (λ g. absurd (omega (arith, o, get_or-eq_default points 0 {n = k} (omega arith))))
