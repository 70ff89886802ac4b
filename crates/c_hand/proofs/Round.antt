-- A state that is written to a row is read back with its count cut to 65535. Check 14 refuses the row exactly if it refuses the state.
-- Assumes nothing.
use Prim.Native.Nat.{ℕ, zero, suc, ◌<◌}
use native.Mathlib.Decide.{dec_lt}
use native.Mathlib.Omega.{arith}
use mathlib.Core.Bool.{true}
use mathlib.Core.List.{List, [], ◌∷◌, ◌++◌, map, append_assoc, append-nil}
use mathlib.Core.Logic.{dite}
use mathlib.Core.Path.{◌≡◌, refl, sym, ap, ◌∙◌}
use lib.ListN.{length, get_or, take, drop, length-append}
use lib.Seq.{take_at, drop_at, get_or_at}
use borrow.Author.Tests.{lt-ltb, le-leb}
use Rattle.grammar.specs.Valid.{all}
use Rattle.results.specs.Recognize.{State, set_taken, state_check}
use Rattle.results.proofs.State.{state-same}
use Rattle.c_hand.specs.Ranges.{DeclaredState}
use Rattle.sizes.specs.Sizes.{max_input}
use Rattle.numbers.specs.Numbers.{byte_in, saturated}
use Rattle.c_hand.specs.Hand.{is_byte, year_at, points_at, bytes_in, used_bytes, points_in, hand_points, state_of_row, row_of}

-- ---- bytes

-- each element is a byte
abbrev Bytes : List ℕ → Type 0
Bytes l = (i : ℕ) → get_or l i 0 < 256

bytes-front : (l r : List ℕ) → Bytes l → take (length l) (map byte_in (l ++ r)) ≡ l
bytes-front [] r b = refl
bytes-front (a ∷ l) r b =
    let e : byte_in a ≡ a = omega (arith, b 0) in
    let t = bytes-front l r (λ i. b (suc i)) in
    λ i. e i ∷ t i

bytes-all : (l : List ℕ) (n : ℕ) → Bytes l → all is_byte (take n l) ≡ true
unfolding all
bytes-all l zero b = refl
bytes-all [] (suc n) b = refl
bytes-all (a ∷ l) (suc n) b = rw (le-leb a 255 (omega (arith, b 0)), bytes-all l n (λ i. b (suc i)))

-- ---- a state

-- the state with a count that a row holds
abbrev pub kept : State → State
kept s = set_taken s (saturated s.count)

module _ (s : State) (d : DeclaredState s) where
  -- what comes after the bytes
  abbrev tail : List ℕ
  tail = saturated s.count ∷ s.year ∷ s.points

  bytes_back : bytes_in (row_of s) ≡ s.bytes
  unfolding bytes_in row_of
  bytes_back = ap (λ (n : ℕ). take n (map byte_in (s.bytes ++ tail))) (sym d.long) ∙ bytes-front s.bytes tail d.each

  count-back : get_or (row_of s) max_input 0 ≡ saturated s.count
  unfolding row_of
  count-back = get_or_at s.bytes (saturated s.count) (s.year ∷ s.points) 0 max_input d.long

  -- the bytes with the count
  abbrev front : List ℕ
  front = s.bytes ++ (saturated s.count ∷ [])

  year-back : get_or (row_of s) year_at 0 ≡ s.year
  unfolding row_of
  year-back =
      let long : length front ≡ year_at = omega (arith, length-append s.bytes (saturated s.count ∷ []), d.long) in
      ap (λ (l : List ℕ). get_or l year_at 0) (sym (append_assoc s.bytes (saturated s.count ∷ []) (s.year ∷ s.points)))
      ∙ get_or_at front s.year s.points 0 year_at long

  used-back : used_bytes (row_of s) ≡ true
  unfolding used_bytes row_of
  used-back =
      ap (λ (l : List ℕ). all is_byte (take (get_or (row_of s) max_input 0) l)) (take_at s.bytes tail max_input d.long)
      ∙ bytes-all s.bytes (get_or (row_of s) max_input 0) d.each

  -- the points are what comes after the first 66 numbers
  behind-back : drop points_at (row_of s) ≡ s.points
  unfolding row_of
  behind-back =
      let more = s.bytes ++ (saturated s.count ∷ s.year ∷ []) in
      let long : length more ≡ points_at = omega (arith, length-append s.bytes (saturated s.count ∷ s.year ∷ []), d.long) in
      ap (drop points_at) (sym (append_assoc s.bytes (saturated s.count ∷ s.year ∷ []) s.points))
      ∙ drop_at more s.points points_at long

  points-back : hand_points (row_of s) ≡ s.points
  unfolding hand_points points_in
  points-back =
      rw (used-back, behind-back) (
      ap (λ (n : ℕ). take n (map byte_in s.points)) (sym d.eight)
      ∙ ap (λ (l : List ℕ). take (length s.points) (map byte_in l)) (sym (append-nil s.points))
      ∙ bytes-front s.points [] d.small
      )

  pub read_kept : state_of_row (row_of s) ≡ kept s
  unfolding state_of_row
  read_kept = state-same (state_of_row (row_of s)) (kept s) bytes_back count-back year-back points-back

  -- a state whose count is one of 16 bits is read back as it was written
  pub read-write : s.count < 65536 → state_of_row (row_of s) ≡ s
  read-write h =
      let e : saturated s.count ≡ s.count = omega arith in
      read_kept ∙ ap (set_taken s) e

  -- check 14 refuses what is written exactly if it refuses the state
  pub write-judged : (state_check (state_of_row (row_of s))).fails ≡ (state_check s).fails
  write-judged = ap (λ (x : State). (state_check x).fails) read_kept ∙ dite (dec_lt s.count 65536) small large
    where
      small : s.count < 65536 → (state_check (kept s)).fails ≡ (state_check s).fails
      small h =
          let e : saturated s.count ≡ s.count = omega arith in
          ap (λ (n : ℕ). (state_check (set_taken s n)).fails) e

      large : (s.count < 65536 → ⊥) → (state_check (kept s)).fails ≡ (state_check s).fails
      large h =
          let many : max_input < s.count = omega arith in
          let cut : max_input < saturated s.count = omega arith in
          rw (lt-ltb max_input (saturated s.count) cut, lt-ltb max_input s.count many)
