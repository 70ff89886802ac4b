-- A row of 16-bit numbers: the 64 bytes of a state of the recognizer (document 01: the marks of a plate in hand), the count of those that
-- have been taken, the year, then the eight points (document 02, U6). The state of a row, and the row of a state. All 16 bits of a number
-- count: a row with a used number that is no byte is read as a state with a point past its count, which check 14 refuses. A count too
-- large for a row is written as one that check 14 refuses. Any year is legal. Assumes nothing.
use Rattle.std.specs.Prelude.{ℕ, ◌+◌, Bool, cond, ◌&&◌, List, ◌∷◌, ◌++◌, map, leb, get_or, take, drop, set}
use Rattle.sizes.specs.Sizes.{max_input, max_points}
use Rattle.numbers.specs.Numbers.{byte_in, saturated}
use Rattle.grammar.specs.Valid.{all}
use Rattle.results.specs.Recognize.{State, state_with, points_within}

-- how many numbers a row has: the bytes, the count, the year, then the points
abbrev pub hand_size : ℕ
hand_size = max_input + 2 + max_points

-- where the year is
abbrev pub year_at : ℕ
year_at = max_input + 1

-- where the points are
abbrev pub points_at : ℕ
points_at = max_input + 2

-- ---- the state of a row

-- whether a number fits a byte
abbrev pub is_byte : ℕ → Bool
is_byte n = leb n 255

-- the 64 bytes
unfoldable pub bytes_in : List ℕ → List ℕ
bytes_in h = take max_input (map byte_in h)

-- whether each used number is a byte
unfoldable pub used_bytes : List ℕ → Bool
used_bytes h = all is_byte (take (get_or h max_input 0) (take max_input h))

-- the eight points
unfoldable pub points_in : List ℕ → List ℕ
points_in h = take max_points (map byte_in (drop points_at h))

-- a point that is past every count
abbrev pub past_point : ℕ
past_point = 255

-- the points, of which the first is past every count where a used number is no byte
unfoldable pub hand_points : List ℕ → List ℕ
hand_points h = cond (used_bytes h) (points_in h) (set (points_in h) 0 past_point)

-- the state of a row
unfoldable pub state_of_row : List ℕ → State
state_of_row h = state_with (bytes_in h) (get_or h max_input 0) (get_or h year_at 0) (hand_points h)

-- what check 14 accepts, in terms of the row's own numbers: at most 64 are used, these are bytes, and no set point is past the count
unfoldable pub valid_hand : List ℕ → Bool
valid_hand h =
    leb (get_or h max_input 0) max_input
    && all is_byte (take (get_or h max_input 0) h)
    && points_within (get_or h max_input 0) (take max_points (drop points_at h))

-- ---- the row of a state

-- the row of a state
unfoldable pub row_of : State → List ℕ
row_of s = s.bytes ++ (saturated s.count ∷ s.year ∷ s.points)
