-- The number of a nonterminal in the least table and in the numbers of one span, by the test that the code makes. Assumes nothing.
use Prim.Native.Nat.{ℕ, ◌+◌, ◌*◌, ◌≤◌, ◌<◌}
use mathlib.Core.List.{List}
use mathlib.Core.Logic.{dite}
use mathlib.Core.Path.{◌≡◌, sym, ◌∙◌}
use native.Mathlib.Decide.{dec_lt}
use native.Mathlib.Omega.{arith}
use lib.ListN.{get_or, replicate, get_or-replicate}
use borrow.Author.Tests.{lt-ltb, le-ltb}
use Rattle.sizes.specs.Sizes.{side, cells, too_many}
use Rattle.table_layout.specs.Layout.{cost_in, full_in}

pub cost-read : (tables : List ℕ) (k a b : ℕ) → k < 32 → get_or tables (cells * k + side * a + b) 0 ≡ cost_in tables k a b
unfolding cost_in
cost-read tables k a b h = rw (lt-ltb k 32 h)

pub cost-none : (tables : List ℕ) (k a b : ℕ) → 32 ≤ k → too_many ≡ cost_in tables k a b
unfolding cost_in
cost-none tables k a b h = rw (le-ltb k 32 h)

pub full-read : (full : List ℕ) (k : ℕ) → k < 32 → get_or full k 0 ≡ full_in full k
unfolding full_in
full-read full k h = rw (lt-ltb k 32 h)

pub full-none : (full : List ℕ) (k : ℕ) → 32 ≤ k → too_many ≡ full_in full k
unfolding full_in
full-none full k h = rw (le-ltb k 32 h)

-- numbers that are all 513
pub full-many : (k : ℕ) → full_in (replicate 32 too_many) k ≡ too_many
full-many k =
    dite (dec_lt k 32) (λ h. sym (full-read (replicate 32 too_many) k h) ∙ get_or-replicate 32 k too_many 0 h)
    (λ h. sym (full-none (replicate 32 too_many) k (omega arith)))
