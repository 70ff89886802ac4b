-- The bytes and the points of a state, copied one after the other from a row and to a row. Assumes nothing.
use Prim.Native.Nat.{ℕ, suc, ◌+◌, ◌≤◌, ◌<◌}
use native.Mathlib.Numerals.{add-one}
use native.Mathlib.Omega.{arith}
use mathlib.Core.Bool.{Bool, true, false}
use mathlib.Core.List.{List, [], ◌∷◌, ◌++◌, map, append_assoc}
use mathlib.Core.Path.{◌≡◌, refl, sym, ap, ◌∙◌}
use lib.ListN.{length, get_or, take, drop, set, length-set, length-map, length-drop, length-append, get_or-map}
use lib.Seq.{take-suc, take-suc-set, take_all, take_at, get_or-drop, get_or-append-add, length-take-le}
use Rattle.sizes.specs.Sizes.{max_input, max_points}
use Rattle.results.specs.Recognize.{State, state_with}
use Rattle.results.proofs.State.{state-same}
use Rattle.numbers.specs.Numbers.{byte_in, saturated}
use Rattle.c_hand.specs.Hand.{hand_size, year_at, points_at, bytes_in, used_bytes, points_in, past_point, hand_points, state_of_row, row_of}

-- l has n elements, and its first i, of at most m, are those of x
pub record Copied (m : ℕ) (x : List ℕ) (n i : ℕ) (l : List ℕ) : Type 0 where
  pub low : i ≤ m
  pub long : length l ≡ n
  pub front : take i l ≡ take i x

module _ (m : ℕ) (x : List ℕ) (n : ℕ) where
  pub copied-start : (l : List ℕ) → length l ≡ n → Copied m x n 0 l
  copied-start l h = record { low = omega arith; long = h; front = refl }

  -- one more element
  pub copied-step : (i : ℕ) (l : List ℕ) (a : ℕ) → Copied m x n i l → m ≤ length x → m ≤ n → i < m → a ≡ get_or x i 0
      → Copied m x n (i + 1) (set l i a)
  copied-step i l a c h k o e =
      let t : take (suc i) (set l i a) ≡ take (suc i) x =
      take-suc-set l i a (omega (arith, c.long)) ∙ (λ j. c.front j ++ (e j ∷ [])) ∙ sym (take-suc x i 0 (omega arith))
      in
      record { low = omega arith; long = length-set l i a ∙ c.long; front = rw add-one t }

  pub copied_all : (i : ℕ) (l : List ℕ) → Copied m x n i l → m ≤ i → take m l ≡ take m x
  copied_all i l c h =
      let e : i ≡ m = omega (arith, c.low) in
      rw e at c.front

-- ---- reading

-- one more byte
pub read_step : (h : List ℕ) (i : ℕ) (l : List ℕ) (a : ℕ) → Copied max_input (map byte_in h) max_input i l → length h ≡ hand_size → i < max_input
    → a ≡ byte_in (get_or h i 0) → Copied max_input (map byte_in h) max_input (i + 1) (set l i a)
read_step h i l a c n k e =
    copied-step max_input (map byte_in h) max_input i l a c (omega (arith, length-map h byte_in)) (omega arith) k
    (e ∙ sym (get_or-map byte_in h i 0))

-- all bytes
pub read_done : (h : List ℕ) (i : ℕ) (l : List ℕ) → Copied max_input (map byte_in h) max_input i l → max_input ≤ i → l ≡ bytes_in h
unfolding bytes_in
read_done h i l c k = sym (take_all max_input l (omega (arith, c.long))) ∙ copied_all max_input (map byte_in h) max_input i l c k

-- the points of a row, as bytes
abbrev pub point_bytes : List ℕ → List ℕ
point_bytes h = map byte_in (drop points_at h)

-- one more point
pub point-step : (h : List ℕ) (i : ℕ) (l : List ℕ) (a : ℕ) → Copied max_points (point_bytes h) max_points i l → length h ≡ hand_size
    → i < max_points → a ≡ byte_in (get_or h (points_at + i) 0) → Copied max_points (point_bytes h) max_points (i + 1) (set l i a)
point-step h i l a c n k e =
    copied-step max_points (point_bytes h) max_points i l a c
    (omega (arith, length-map (drop points_at h) byte_in, length-drop points_at h)) (omega arith) k
    (e ∙ ap byte_in (sym (get_or-drop points_at h i 0)) ∙ sym (get_or-map byte_in (drop points_at h) i 0))

-- all points
pub points-done : (h : List ℕ) (i : ℕ) (l : List ℕ) → Copied max_points (point_bytes h) max_points i l → max_points ≤ i → l ≡ points_in h
unfolding points_in
points-done h i l c k = sym (take_all max_points l (omega (arith, c.long))) ∙ copied_all max_points (point_bytes h) max_points i l c k

-- as they are, or with a point past every count
module _ (h l : List ℕ) (b : Bool) (read : l ≡ points_in h) (used : b ≡ used_bytes h) where
  pub points_kept : b ≡ true → l ≡ hand_points h
  unfolding hand_points
  points_kept e = rw (sym used ∙ e) read

  pub points-past : b ≡ false → set l 0 past_point ≡ hand_points h
  unfolding hand_points
  points-past e = rw (sym used ∙ e) (ap (λ (x : List ℕ). set x 0 past_point) read)

-- the state of what was read
pub read_of : (h l points : List ℕ) (n : ℕ) → l ≡ bytes_in h → n ≡ get_or h max_input 0 → points ≡ hand_points h
    → state_with l n (get_or h year_at 0) points ≡ state_of_row h
unfolding state_of_row
read_of h l points n e f p = state-same (state_with l n (get_or h year_at 0) points) (state_of_row h) e f refl p

-- ---- writing

-- the points are written after what was there before them
abbrev pub with_points : List ℕ → List ℕ → List ℕ
with_points l points = take points_at l ++ points

module _ (l₀ points : List ℕ) (long : length l₀ ≡ hand_size) (eight : length points ≡ max_points) where
  front : length (take points_at l₀) ≡ points_at
  front = length-take-le points_at l₀ (omega arith)

  whole : length (with_points l₀ points) ≡ hand_size
  whole = omega (arith, length-append (take points_at l₀) points, front)

  pub put-start : Copied hand_size (with_points l₀ points) hand_size points_at l₀
  put-start = record { low = omega arith; long = long; front = sym (take_at (take points_at l₀) points points_at front) }

  pub put_step : (i : ℕ) (l : List ℕ) (a : ℕ) → Copied hand_size (with_points l₀ points) hand_size (points_at + i) l → i < max_points
      → a ≡ get_or points i 0 → Copied hand_size (with_points l₀ points) hand_size (points_at + (i + 1)) (set l (points_at + i) a)
  put_step i l a c k e =
      let s : points_at + (i + 1) ≡ points_at + i + 1 = omega arith in
      let at : get_or (with_points l₀ points) (points_at + i) 0 ≡ get_or points i 0 =
      ap (λ (x : ℕ). get_or (with_points l₀ points) (x + i) 0) (sym front) ∙ get_or-append-add (take points_at l₀) points i 0 in
      rw s (copied-step hand_size (with_points l₀ points) hand_size (points_at + i) l a c (omega (arith, whole)) (omega arith) (omega arith)
      (e ∙ sym at))

  pub put-done : (i : ℕ) (l : List ℕ) → Copied hand_size (with_points l₀ points) hand_size (points_at + i) l → max_points ≤ i
      → l ≡ with_points l₀ points
  put-done i l c k =
      sym (take_all hand_size l (omega (arith, c.long)))
      ∙ copied_all hand_size (with_points l₀ points) hand_size (points_at + i) l c (omega arith)
      ∙ take_all hand_size (with_points l₀ points) (omega (arith, whole))

pub stored-long : (l : List ℕ) (k y : ℕ) → length l ≡ hand_size → length (set (set l max_input k) year_at y) ≡ hand_size
stored-long l k y long = length-set (set l max_input k) year_at y ∙ length-set l max_input k ∙ long

-- all bytes are written, then the count, the year and the points
pub write_done : (s : State) (i : ℕ) (l : List ℕ) (k : ℕ) → Copied max_input s.bytes hand_size i l → length s.bytes ≡ max_input
    → max_input ≤ i → k ≡ saturated s.count → with_points (set (set l max_input k) year_at s.year) s.points ≡ row_of s
unfolding row_of
write_done s i l k c n h e =
    let t : take max_input l ≡ s.bytes = copied_all max_input s.bytes hand_size i l c h ∙ take_all max_input s.bytes (omega arith) in
    let counted = set l max_input k in
    let long : length counted ≡ hand_size = length-set l max_input k ∙ c.long in
    ap (λ (x : List ℕ). x ++ s.points) (take-suc-set counted year_at s.year (omega arith))
    ∙ ap (λ (x : List ℕ). (x ++ (s.year ∷ [])) ++ s.points) (take-suc-set l max_input k (omega (arith, c.long)))
    ∙ (λ j. ((t j ++ (e j ∷ [])) ++ (s.year ∷ [])) ++ s.points)
    ∙ append_assoc (s.bytes ++ (saturated s.count ∷ [])) (s.year ∷ []) s.points
    ∙ append_assoc s.bytes (saturated s.count ∷ []) (s.year ∷ s.points)
