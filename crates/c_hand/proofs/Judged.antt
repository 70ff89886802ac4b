-- Check 14 refuses the state of a row exactly if the row's own numbers are invalid. Assumes nothing.
use Prim.Native.Nat.{ℕ, zero, suc, ◌+◌, ◌≤◌, ◌<◌}
use native.Mathlib.Decide.{dec_le}
use native.Mathlib.Omega.{arith}
use mathlib.Core.Bool.{Bool, true, false, cond, not, ◌&&◌, ◌||◌}
use mathlib.Core.List.{List, [], ◌∷◌, map}
use mathlib.Core.Logic.{dite}
use mathlib.Core.Path.{◌≡◌, refl, ap}
use lib.Dec.{ltb, leb}
use lib.ListN.{length, get_or, take, drop, set, length-map, length-drop, length-take}
use lib.Seq.{take-take}
use borrow.Author.Tests.{lt-ltb, le-ltb, le-leb, lt-leb}
use Rattle.sizes.specs.Sizes.{max_input, max_points}
use Rattle.numbers.specs.Numbers.{byte_in}
use Rattle.grammar.specs.Valid.{all}
use Rattle.results.specs.Recognize.{points_within, state_check}
use Rattle.c_hand.specs.Hand.{hand_size, points_at, is_byte, used_bytes, points_in, past_point, hand_points, state_of_row, valid_hand}

-- a point that is cut to 255 is past the count exactly if the point is
within-cut : (n k : ℕ) (l : List ℕ) → n ≤ max_input → points_within n (take k (map byte_in l)) ≡ points_within n (take k l)
unfolding points_within all
within-cut n zero l h = refl
within-cut n (suc k) [] h = refl
within-cut n (suc k) (p ∷ l) h = dite (dec_le p (n + 1))
    (λ o. let c : byte_in p ≤ n + 1 = omega arith in
    rw (le-leb (byte_in p) (n + 1) c, le-leb p (n + 1) o) (within-cut n k l h))
    (λ o. let m : n + 1 < p = omega arith in
    let c : n + 1 < byte_in p = omega arith in
    rw (lt-leb (byte_in p) (n + 1) c, lt-leb p (n + 1) m))

-- the point past every count is past this one
past_first : (n : ℕ) (l : List ℕ) → 0 < length l → n ≤ max_input → points_within n (set l 0 past_point) ≡ false
unfolding points_within all
past_first n [] h k = absurd (omega arith)
past_first n (p ∷ l) h k = rw (lt-leb past_point (n + 1) (omega arith))

module _ (h : List ℕ) (long : length h ≡ hand_size) where
  abbrev n : ℕ
  n = get_or h max_input 0

  abbrev kept : List ℕ
  kept = take max_points (drop points_at h)

  used : n ≤ max_input → used_bytes h ≡ all is_byte (take n h)
  unfolding used_bytes
  used k = ap (all is_byte) (take-take n max_input h k)

  some-point : 0 < length (points_in h)
  unfolding points_in
  some-point =
      omega (arith, length-take max_points (map byte_in (drop points_at h)), length-map (drop points_at h) byte_in, length-drop points_at h)

  within : n ≤ max_input → points_within n (points_in h) ≡ points_within n kept
  unfolding points_in
  within k = within-cut n max_points (drop points_at h) k

  by_bytes : (b : Bool) → n ≤ max_input → (ltb max_input n || not (points_within n (cond b (points_in h) (set (points_in h) 0 past_point))))
      ≡ not (leb n max_input && b && points_within n kept)
  by_bytes true k = rw (le-ltb max_input n k, le-leb n max_input k, within k)
  by_bytes false k = rw (le-ltb max_input n k, le-leb n max_input k, past_first n (points_in h) some-point k)

  pub judged-whole : (state_check (state_of_row h)).fails ≡ not (valid_hand h)
  unfolding state_of_row hand_points valid_hand
  judged-whole = dite (dec_le n max_input)
      (λ k. rw (used k) (by_bytes (all is_byte (take n h)) k))
      (λ k. let o : max_input < n = omega arith in rw (lt-ltb max_input n o, lt-leb n max_input o))
