-- Bytes written into a buffer after the bytes that it already has, and the sizes of lengths. Assumes nothing.
use Rattle.std.specs.Prelude.{ℕ, ◌+◌, List, ◌++◌, ◌≡◌, length, take, drop}

-- from `at` up to `end` the buffer holds the bytes x, and the bytes before and after them are as found
pub record Put (x : List ℕ) (at end : ℕ) (out₀ out : List ℕ) : Type 0 where
  pub long : length out ≡ length out₀
  pub grown : end ≡ at + length x
  pub front : take end out ≡ take at out₀ ++ x
  pub back : drop end out ≡ drop end out₀

-- the most bytes that a length has: a minus sign and seven digits
abbrev pub length_size : ℕ
length_size = 8

-- the most tenths that a length has: those of 512 nodes of 32768 hundredths each (print_line/proofs/Bounds.antt)
abbrev pub max_tenths : ℕ
max_tenths = 1677722
