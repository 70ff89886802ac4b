-- Points within a number of bytes, and what a return does with points. Assumes nothing.
use Prim.Native.Nat.{ℕ, zero, suc, ◌≤◌, ◌<◌}
use mathlib.Core.List.{List, [], ◌∷◌, map}
use mathlib.Core.Logic.{dite}
use mathlib.Core.Option.{Option, none, some, some-injective, none-ne-some}
use mathlib.Core.Path.{◌≡◌, refl, ap}
use native.Mathlib.Decide.{dec_le}
use native.Mathlib.Omega.{arith}
use lib.ListN.{get_or, set, replicate}
use borrow.Author.Tests.{le-leb, lt-leb}
use Rattle.theory_points.specs.Machine.{point_up_to}

-- no point is set where more than n bytes remained
abbrev pub Within : ℕ → List (Option ℕ) → Type 0
Within n [] = Unit {0}
Within n (none ∷ points) = Within n points
Within n (some p ∷ points) = (p ≤ n) × Within n points

pub none_within : (n m : ℕ) → Within n (replicate m none)
none_within n zero = tt
none_within n (suc m) = none_within n m

pub more_within : (n m : ℕ) (points : List (Option ℕ)) → n ≤ m → Within n points → Within m points
more_within n m [] h w = tt
more_within n m (none ∷ points) h w = more_within n m points h w
more_within n m (some p ∷ points) h w = (omega (arith, w.0), more_within n m points h w.1)

pub set-within : (n p k : ℕ) (points : List (Option ℕ)) → p ≤ n → Within n points → Within n (set points k (some p))
set-within n p k [] h w = tt
set-within n p zero (none ∷ points) h w = (h, w)
set-within n p zero (some q ∷ points) h w = (h, w.1)
set-within n p (suc k) (none ∷ points) h w = set-within n p k points h w
set-within n p (suc k) (some q ∷ points) h w = (w.0, set-within n p k points h w.1)

-- each point that is set is within
pub within-at : (n p k : ℕ) (points : List (Option ℕ)) → Within n points → get_or points k none ≡ some p → p ≤ n
within-at n p k [] w e = absurd (none-ne-some p e)
within-at n p zero (none ∷ points) w e = absurd (none-ne-some p e)
within-at n p zero (some q ∷ points) w e = let s : q ≡ p = some-injective q p e in omega (arith, w.0)
within-at n p (suc k) (none ∷ points) w e = within-at n p k points w e
within-at n p (suc k) (some q ∷ points) w e = within-at n p k points w.1 e

-- ---- a return to where p bytes remained

module _ (p n : ℕ) where
  -- a point at p or before it remains, that of the target too
  pub up-to-kept : n ≤ p → point_up_to p (some n) ≡ some n
  unfolding point_up_to
  up-to-kept h = rw (le-leb n p h)

  -- a point beyond is gone
  pub up-to-gone : p < n → point_up_to p (some n) ≡ none
  unfolding point_up_to
  up-to-gone h = rw (lt-leb n p h)

pub up-to-within : (p : ℕ) (points : List (Option ℕ)) → Within p (map (point_up_to p) points)
unfolding point_up_to
up-to-within p [] = tt
up-to-within p (none ∷ points) = up-to-within p points
up-to-within p (some n ∷ points) = dite (dec_le n p)
    (λ h. rw (le-leb n p h) (h, up-to-within p points))
    (λ h. let l : p < n = omega arith in rw (lt-leb n p l) (up-to-within p points))

pub up-to-same : (p : ℕ) (points : List (Option ℕ)) → Within p points → map (point_up_to p) points ≡ points
unfolding point_up_to
up-to-same p [] w = refl
up-to-same p (none ∷ points) w = ap (λ (x : List (Option ℕ)). none ∷ x) (up-to-same p points w)
up-to-same p (some n ∷ points) w = (λ i. up-to-kept p n w.0 i ∷ up-to-same p points w.1 i)
