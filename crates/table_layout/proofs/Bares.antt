-- Where the costs of rules without a child over the whole span are stored. No two have one index, and all come after the other tables.
-- Assumes nothing.
use Prim.Native.Nat.{ℕ, ◌+◌, ◌*◌, ◌-◌, ◌≤◌, ◌<◌}
use mathlib.Core.List.{List}
use mathlib.Core.Logic.{dite}
use mathlib.Core.Path.{◌≡◌, ap}
use native.Mathlib.Decide.{dec_lt}
use native.Mathlib.Omega.{arith}
use lib.ListN.{get_or}
use borrow.Author.Tests.{lt-ltb, le-ltb}
use Rattle.sizes.specs.Sizes.{max_rules, side}
use Rattle.table_layout.specs.Layout.{span_at, bare_at, bare_in, bares_at, tables_size}

-- ---- the index of a span

pub span-low : (i j : ℕ) → i < 32 → side * i + (j - i - 1) ≡ span_at i j
unfolding span_at
span-low i j h = rw (lt-ltb i 32 h)

pub span-high : (i j : ℕ) → 32 ≤ i → side * (63 - i) + j ≡ span_at i j
unfolding span_at
span-high i j h = rw (le-ltb i 32 h)

pub span_below : (i j : ℕ) → i < j → j < side → span_at i j < 2080
span_below i j h l =
    dite (dec_lt i 32) (λ m. omega (arith, span-low i j m)) (λ m. omega (arith, span-high i j (omega arith)))

-- two spans with one index are the same
span_same : (i j a b : ℕ) → i < j → j < side → a < b → b < side → span_at i j ≡ span_at a b → (i ≡ a) × (j ≡ b)
span_same i j a b h l m n e = go (dec_lt i 32) (dec_lt a 32)
  where
    go : Dec (i < 32) → Dec (a < 32) → (i ≡ a) × (j ≡ b)
    go (yes x) (yes y) = let s = span-low i j x in let t = span-low a b y in (omega arith, omega arith)
    go (yes x) (no y) = let s = span-low i j x in let t = span-high a b (omega arith) in (omega arith, omega arith)
    go (no x) (yes y) = let s = span-high i j (omega arith) in let t = span-low a b y in (omega arith, omega arith)
    go (no x) (no y) = let s = span-high i j (omega arith) in let t = span-high a b (omega arith) in (omega arith, omega arith)

-- ---- the index of a rule's cost

pub bare-placed : (i j r : ℕ) {n : ℕ} → n ≡ span_at i j → bares_at + max_rules * n + r ≡ bare_at i j r
unfolding bare_at
bare-placed i j r e = omega arith

pub bare-read : (tables : List ℕ) (i j r : ℕ) {n : ℕ} → n ≡ bare_at i j r → get_or tables n 0 ≡ bare_in tables i j r
bare-read tables i j r e = ap (λ (x : ℕ). get_or tables x 0) e

-- the other tables come before
pub bare-behind : (i j r : ℕ) → bares_at ≤ bare_at i j r
unfolding bare_at
bare-behind i j r = omega arith

pub bare-inside : (i j r : ℕ) → i < j → j < side → r < max_rules → bare_at i j r < tables_size
unfolding bare_at
bare-inside i j r h l m = omega (arith, span_below i j h l)

-- no two costs have one index
pub bare_apart : (i j r a b s : ℕ) → i < j → j < side → r < max_rules → a < b → b < side → s < max_rules
    → ¬ ((i ≡ a) × (j ≡ b) × (r ≡ s)) → ¬ (bare_at i j r ≡ bare_at a b s)
unfolding bare_at
bare_apart i j r a b s h l m n o q d e =
    let f : span_at i j ≡ span_at a b = omega arith in
    let (x, y) = span_same i j a b h l n o f in
    d (x, y, omega arith)
