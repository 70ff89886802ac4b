-- Sets of nonterminals 0..31, each a number of 32 bits: what membership, insertion and the number of members mean. Assumes nothing.
use Rattle.std.specs.Prelude.{ℕ, zero, suc, ◌+◌, ◌/◌, ◌%◌, ◌^◌, Bool, cond, eqb}

-- k is in the set w: bit k of the word is 1
unfoldable pub has : ℕ → ℕ → Bool
has k w = eqb (w / 2 ^ k % 2) 1

-- w with k in it
unfoldable pub insert : ℕ → ℕ → ℕ
insert k w = cond (has k w) w (w + 2 ^ k)

-- the set with no member
abbrev pub empty : ℕ
empty = 0

-- how many of 0..n-1 are in the set
unfoldable pub count_below : ℕ → ℕ → ℕ
count_below zero w = 0
count_below (suc n) w = cond (has n w) (suc (count_below n w)) (count_below n w)

-- how many of 0..31 are in the set
unfoldable pub card : ℕ → ℕ
card w = count_below 32 w
