-- One past the last number that has a rule. Assumes nothing.
use Prim.Native.Nat.{ℕ, ◌≤◌, ◌<◌}
use mathlib.Core.List.{List}
use mathlib.Core.Logic.{dite}
use native.Mathlib.Decide.{dec_lt}
use native.Mathlib.Omega.{arith}
use Rattle.sizes.specs.Sizes.{max_rules}
use Rattle.packed.specs.Packed.{left_in, Used}

pub used_all : (p : List ℕ) → Used p max_rules
used_all p r h l = h

-- no number from m on has a rule
pub used-past : (p : List ℕ) (m : ℕ) → Used p m → (r : ℕ) → m ≤ r → r < max_rules → 32 ≤ left_in p r
used-past p m used r h l = dite (dec_lt (left_in p r) 32) (λ u. absurd (omega (arith, used r l u))) (λ n. omega arith)
