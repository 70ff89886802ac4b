-- The sum of numbers falls if one of them is lowered. Assumes nothing.
use Prim.Native.Nat.{ℕ, zero, suc, ◌<◌}
use mathlib.Core.List.{List, [], ◌∷◌}
use native.Mathlib.Omega.{arith}
use lib.ListN.{length, set, get_or}
use Rattle.table_solve.specs.Solve.{total}

pub total-less : (numbers : List ℕ) (k v : ℕ) → k < length numbers → v < get_or numbers k 0 → total (set numbers k v) < total numbers
unfolding total
total-less [] k v h l = absurd (omega arith)
total-less (n ∷ numbers) zero v h l = omega arith
total-less (n ∷ numbers) (suc k) v h l = omega (arith, total-less numbers k v (omega arith) l)
