-- A step on sets that is monotone and gives only members below 32: 32 rounds of it from the empty set give a set that is closed under the
-- step, and the least such set. Assumes nothing.
use Prim.Native.Nat.{ℕ, zero, suc, ◌<◌}
use mathlib.Core.Bool.{true, false≢true}
use mathlib.Core.Logic.{◌⊎◌, inl, inr, dite}
use mathlib.Core.Path.{◌≡◌, sym, ◌∙◌}
use native.Mathlib.Decide.{dec_lt}
use native.Mathlib.Omega.{arith}
use Rattle.laws.proofs.Bools.{by-test}
use Rattle.sets.specs.Set.{has, card}
use Rattle.sets.proofs.Laws.{has-empty}
use Rattle.sets.proofs.Card.{card-le, card-strict}
use Rattle.chart.specs.Column.{times}

abbrev pub Sub : ℕ → ℕ → Type 0
Sub v w = (k : ℕ) → has k v ≡ true → has k w ≡ true

pub sub-empty : (w : ℕ) → Sub 0 w
sub-empty w k e = absurd (false≢true (sym (has-empty k) ∙ e))

-- if each step keeps the set inside P, the rounds do
pub rounds-in : (step : ℕ → ℕ) (P : ℕ → Type 0)
    → ((v : ℕ) → ((k : ℕ) → has k v ≡ true → P k) → (k : ℕ) → has k (step v) ≡ true → P k)
    → (t k : ℕ) → has k (times t step 0) ≡ true → P k
unfolding times
rounds-in step P h zero k e = absurd (false≢true (sym (has-empty k) ∙ e))
rounds-in step P h (suc t) k e = h (times t step 0) (rounds-in step P h t) k e

module _ (step : ℕ → ℕ) (mono : (v w : ℕ) → Sub v w → Sub (step v) (step w)) (low : (v k : ℕ) → has k (step v) ≡ true → k < 32) where
  rising : (t : ℕ) → Sub (times t step 0) (times (suc t) step 0)
  unfolding times
  rising zero = sub-empty (step 0)
  rising (suc t) = mono (times t step 0) (step (times t step 0)) (rising t)

  -- a set to which the step adds no member is closed
  same-closed : (v : ℕ) → Sub v (step v) → ¬ (card v < card (step v)) → Sub (step v) v
  same-closed v s c k e = by-test (has k v) (λ q. q) (λ q. absurd (c (card-strict v (step v) k (low v k e) s q e)))

  closed-or-larger : (t : ℕ) → Sub (step (times t step 0)) (times t step 0) ⊎ (t < card (step (times t step 0)))
  unfolding times
  closed-or-larger zero = dite (dec_lt (card 0) (card (step 0)))
      (λ l. inr (omega arith)) (λ l. inl (same-closed 0 (sub-empty (step 0)) l))
  closed-or-larger (suc t) = go (closed-or-larger t) (dec_lt (card x) (card (step x)))
    where
      x : ℕ
      x = step (times t step 0)

      go : Sub x (times t step 0) ⊎ (t < card x) → Dec (card x < card (step x)) → Sub (step x) x ⊎ (suc t < card (step x))
      go (inl s) d = inl (mono x (times t step 0) s)
      go (inr l) (yes m) = inr (omega arith)
      go (inr l) (no m) = inl (same-closed x (rising (suc t)) m)

  pub rounds-closed : Sub (step (times 32 step 0)) (times 32 step 0)
  rounds-closed = go (times 32 step 0) (closed-or-larger 32)
    where
      go : (x : ℕ) → Sub (step x) x ⊎ (32 < card (step x)) → Sub (step x) x
      go x (inl s) = s
      go x (inr l) = absurd (omega (arith, card-le (step x)))
