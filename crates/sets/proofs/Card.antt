-- The number of members: it is at most 32, no smaller in a larger set, and larger if the larger set has a new member below 32.
-- Proved for the members below any n, and stated for 32. Assumes nothing.
use Prim.Native.Nat.{ℕ, zero, suc, ◌+◌, ◌≤◌, ◌<◌}
use mathlib.Core.Bool.{Bool, true, false, cond}
use mathlib.Core.Logic.{◌≢◌, dite}
use mathlib.Core.Path.{◌≡◌, sym, ap, ◌∙◌}
use native.Mathlib.Decide.{ℕ_discrete}
use native.Mathlib.Omega.{arith}
use Rattle.laws.proofs.Bools.{by-test}
use Rattle.sets.specs.Set.{has, count_below, card}

-- the count by cases on membership of the last number
count-in : (n w : ℕ) → has n w ≡ true → count_below (suc n) w ≡ suc (count_below n w)
unfolding count_below
count-in n w e = ap (λ (b : Bool). cond b (suc (count_below n w)) (count_below n w)) e

count-out : (n w : ℕ) → has n w ≡ false → count_below (suc n) w ≡ count_below n w
unfolding count_below
count-out n w e = ap (λ (b : Bool). cond b (suc (count_below n w)) (count_below n w)) e

-- the last number adds at most one
count-suc : (n w : ℕ) → (count_below n w ≤ count_below (suc n) w) × (count_below (suc n) w ≤ suc (count_below n w))
count-suc n w = by-test (has n w) (λ e. omega (arith, count-in n w e)) (λ e. omega (arith, count-out n w e))

pub count-le : (n w : ℕ) → count_below n w ≤ n
unfolding count_below
count-le zero w = omega arith
count-le (suc n) w = omega (arith, count-suc n w, count-le n w)

module _ (v w : ℕ) (sub : (k : ℕ) → has k v ≡ true → has k w ≡ true) where
  -- if w has at least d members more than v below n, then also below n + 1
  count-step : (n d : ℕ) → d + count_below n v ≤ count_below n w → d + count_below (suc n) v ≤ count_below (suc n) w
  count-step n d l = by-test (has n v)
      (λ e. omega (arith, count-in n v e, count-in n w (sub n e)))
      (λ e. omega (arith, count-out n v e, (count-suc n w).0))

  pub count-mono : (n : ℕ) → count_below n v ≤ count_below n w
  unfolding count_below
  count-mono zero = omega arith
  count-mono (suc n) = omega (arith, count-step n 0 (omega (arith, count-mono n)))

  pub count-strict : (n k : ℕ) → k < n → has k v ≡ false → has k w ≡ true → count_below n v < count_below n w
  count-strict zero k h a b = omega arith
  count-strict (suc n) k h a b = dite (ℕ_discrete k n)
      (λ e. let p : has n v ≡ false = sym (ap (λ (x : ℕ). has x v) e) ∙ a in
      let q : has n w ≡ true = sym (ap (λ (x : ℕ). has x w) e) ∙ b in
      omega (arith, count-out n v p, count-in n w q, count-mono n))
      (λ d. let f : k ≢ n = d in
      let l : count_below n v < count_below n w = count-strict n k (omega arith) a b in
      omega (arith, count-step n 1 (omega arith)))

pub card-le : (w : ℕ) → card w ≤ 32
unfolding card
card-le w = count-le 32 w

pub card-strict : (v w k : ℕ) → k < 32 → ((j : ℕ) → has j v ≡ true → has j w ≡ true)
    → has k v ≡ false → has k w ≡ true → card v < card w
unfolding card
card-strict v w k h sub a b = count-strict v w sub 32 k h a b
