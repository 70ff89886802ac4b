-- The lowest number of a set of numbers, capped at `too_many`, and sets of numbers that a loop goes through. Assumes nothing.
use Rattle.std.specs.Prelude.{ℕ, ◌≤◌, ◌<◌}
use Rattle.sizes.specs.Sizes.{too_many}

-- v is the lowest number of P, or `too_many` if P has none below that
pub record Lowest (P : ℕ → Type 0) (v : ℕ) : Type 0 where
  pub capped : v ≤ too_many
  pub reached : v < too_many → P v
  pub below : (u : ℕ) → P u → v ≤ u

-- no number
abbrev pub NoNumber : ℕ → Type 0
NoNumber u = ⊥

-- the numbers that a loop has seen: those of B, and those of P at each index from a on and before m
pub data Seen (B : ℕ → Type 0) (P : ℕ → ℕ → Type 0) (a m u : ℕ) : Type 0 where
  seen_first : B u → Seen B P a m u
  seen_at : (c : ℕ) → a ≤ c → c < m → P c u → Seen B P a m u
