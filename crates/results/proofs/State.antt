-- The laws of a state of the recognizer: two states are equal if their fields are; what the count and the bytes are of the state that has
-- taken w; and when check 14 lets a state through. Assumes nothing.
use Prim.Native.Nat.{ℕ, zero, suc, ◌+◌, ◌-◌, ◌≤◌, ◌<◌}
use native.Mathlib.Decide.{dec_le, dec_lt}
use native.Mathlib.Omega.{arith}
use mathlib.Core.Bool.{true, false, not, and-false, or-true}
use mathlib.Core.List.{List, [], ◌∷◌, ◌++◌}
use mathlib.Core.Logic.{◌⊎◌, inl, inr, dite}
use mathlib.Core.Path.{◌≡◌, refl, sym, ◌∙◌}
use lib.Dec.{ltb, leb}
use lib.ListN.{length, get_or, take, replicate, length-append}
use lib.Seq.{take-append_seam}
use borrow.Author.Tests.{le-leb, lt-leb, le-ltb, lt-ltb, ltb-false, not-true}
use Rattle.sizes.specs.Sizes.{max_input}
use Rattle.laws.proofs.Bools.{clash, true-false, or-neither}
use Rattle.grammar.specs.Valid.{all}
use Rattle.results.specs.Recognize.{State, state_with, hand_of, no_points, points_within, state_check}

pub state-same : (h k : State) → h.bytes ≡ k.bytes → h.count ≡ k.count → h.year ≡ k.year → h.points ≡ k.points → h ≡ k
state-same h k bytes count year points = λ i. state_with (bytes i) (count i) (year i) (points i)

module _ (w points : List ℕ) (y : ℕ) where
  pub state-count : (hand_of w points y).count ≡ length w
  unfolding hand_of
  state-count = refl

  pub state-points : (hand_of w points y).points ≡ points
  unfolding hand_of
  state-points = refl

  -- its count is within its bytes
  pub state-within : (hand_of w points y).count ≤ length (hand_of w points y).bytes
  unfolding hand_of
  state-within = omega (arith, length-append w (replicate (max_input - length w) 0))

  -- the bytes that it has taken are w
  pub state-taken : take (hand_of w points y).count (hand_of w points y).bytes ≡ w
  unfolding hand_of
  state-taken = take-append_seam w (replicate (max_input - length w) 0)

  -- a state of these bytes and this count is the one that has taken w
  pub state-is : (bytes : List ℕ) (n : ℕ) → bytes ≡ w ++ replicate (max_input - length w) 0 → n ≡ length w
      → state_with bytes n y points ≡ hand_of w points y
  unfolding hand_of
  state-is bytes n e f = state-same (state_with bytes n y points) (hand_of w points y) e f refl refl

-- ---- check 14

-- a state without a set point has none past its count
pub none-past : (n : ℕ) → points_within n no_points ≡ true
unfolding points_within all
none-past n = rw (le-leb 0 (n + 1) (omega arith))

-- a list of points in which one is past n, and the other way round
points-past : (n : ℕ) (points : List ℕ) → points_within n points ≡ false → (k : ℕ) × (n + 1 < get_or points k 0)
unfolding points_within all
points-past n [] e = clash cc
points-past n (p ∷ points) e = dite (dec_le p (n + 1))
    (λ l. let r = points-past n points (sym (rw (le-leb p (n + 1) l)) ∙ e) in (suc r.0, r.1))
    (λ l. (0, omega arith))

past_points : (n : ℕ) (points : List ℕ) (k : ℕ) → n + 1 < get_or points k 0 → points_within n points ≡ false
unfolding points_within all
past_points n [] k l = absurd (omega arith)
past_points n (p ∷ points) zero l = rw (lt-leb p (n + 1) l)
past_points n (p ∷ points) (suc k) l = rw (past_points n points k l) (and-false (leb p (n + 1)))

pub state-refused : (h : State) → (state_check h).fails ≡ true → (max_input < h.count) ⊎ ((k : ℕ) × (h.count + 1 < get_or h.points k 0))
state-refused h e = dite (dec_lt max_input h.count) (λ l. inl l) (λ l.
    let o : h.count ≤ max_input = omega arith in
    inr (points-past h.count h.points (not-true _ (sym (rw (le-ltb max_input h.count o)) ∙ e))))

pub refused-state : (h : State) → (max_input < h.count) ⊎ ((k : ℕ) × (h.count + 1 < get_or h.points k 0)) → (state_check h).fails ≡ true
refused-state h (inl l) = rw (lt-ltb max_input h.count l)
refused-state h (inr p) = rw (past_points h.count h.points p.0 p.1) (or-true (ltb max_input h.count))

-- what check 14 lets through: at most 64 bytes have been taken, and no point is past the count
module _ (h : State) (passed : (state_check h).fails ≡ false) where
  pub count_low : h.count ≤ max_input
  count_low = ltb-false max_input h.count (or-neither _ _ passed).0

  pub point-low : (k : ℕ) → get_or h.points k 0 ≤ h.count + 1
  point-low k = dite (dec_le (get_or h.points k 0) (h.count + 1)) (λ l. l)
      (λ l. absurd (true-false (refused-state h (inr (k, omega arith))) passed))

pub state-let-through : (h : State) → h.count ≤ max_input → points_within h.count h.points ≡ true → (state_check h).fails ≡ false
state-let-through h l e = rw (le-ltb max_input h.count l, e)
