-- Check 14 of a state, by its count and by its points. Assumes nothing.
use Prim.Native.Nat.{ℕ, ◌+◌, ◌≤◌, ◌<◌}
use native.Mathlib.Decide.{dec_lt}
use native.Mathlib.Omega.{arith}
use mathlib.Core.Bool.{Bool, false}
use mathlib.Core.Logic.{inr, ⊎_elim, dite}
use mathlib.Core.Path.{◌≡◌}
use lib.ListN.{length, get_or, get_or-eq_default}
use Rattle.std.proofs.Common.{◌↔◌, IsTrue, SomeIndex}
use Rattle.sizes.specs.Sizes.{max_input}
use Rattle.laws.proofs.Bools.{bool-ext}
use Rattle.results.specs.Recognize.{State, state_check}
use Rattle.results.proofs.State.{state-refused, refused-state, count_low}

module _ (h : State) where
  pub count-below : (state_check h).fails ≡ false → (h.count ≡ max_input → ⊥) → h.count < max_input
  count-below e f = omega (arith, count_low h e, f)

  -- some point is past the count
  abbrev pub SomePast : Type 0
  SomePast = SomeIndex h.points (λ k. h.count + 1 < get_or h.points k 0)

  pub past-is : h.count ≤ max_input → (b : Bool) → IsTrue b ↔ SomePast → b ≡ (state_check h).fails
  past-is l b iff = bool-ext b (state_check h).fails
      (λ e. let p = iff.0 e in refused-state h (inr (p.0, p.2)))
      (λ e. ⊎_elim (λ o. absurd (omega arith)) (λ p. iff.1 (p.0, within p.0 p.1, p.1)) (state-refused h e))
    where
      within : (k : ℕ) → h.count + 1 < get_or h.points k 0 → k < length h.points
      within k o = dite (dec_lt k (length h.points)) (λ g. g)
          (λ g. absurd (omega (arith, o, get_or-eq_default h.points 0 {n = k} (omega arith))))
