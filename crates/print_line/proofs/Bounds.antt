-- The bound on lengths that the lines are written for. Assumes nothing.
use Prim.Native.Nat.{suc, ◌≤◌}
use native.Mathlib.Omega.{arith}
use lib.IntN.{ℤ, pos, negsuc}
use lib.Signed.{mag}
use Rattle.laws.proofs.Signed.{neg-size}
use Rattle.results.specs.Measure.{nearest, rounded}
use Rattle.results.proofs.Rounding.{nearest-near}
use Rattle.print_number.specs.Put.{max_tenths}

-- 16777216 hundredths are 512 times 32768
pub tenths-size : (z : ℤ) → mag z ≤ 16777216 → mag (rounded z) ≤ max_tenths
unfolding rounded
tenths-size (pos n) h = omega (arith, nearest-near n)
tenths-size (negsuc n) h = omega (arith, nearest-near (suc n), neg-size (nearest (suc n)))
