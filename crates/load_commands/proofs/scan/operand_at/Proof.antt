-- `load_commands::scan::operand_at` meets its contract: each return by its law. Assumes nothing.
use Prim.Native.Nat.{ℕ, ◌+◌, ◌-◌, ◌≤◌}
use native.Mathlib.Omega.{arith}
use mathlib.Core.List.{List}
use mathlib.Core.Path.{◌≡◌, sym}
use lib.ListN.{length, get_or-eq_default}
use Rattle.results.specs.Load.{operand}
use Rattle.load_commands.proofs.scan.operand_at.Statement.{statement}
use Rattle.load_commands.proofs.scan.operand_at.Tie as tie

-- past the end
operand-none : (bytes : List ℕ) (at i : ℕ) → length bytes - (at + 1) ≤ i → 0 ≡ operand bytes at i
unfolding operand
operand-none bytes at i h = sym (get_or-eq_default bytes 0 {n = at + 1 + i} (omega arith))

pub operand_at_spec : {M : Type 1} → statement M
unfolding operand
operand_at_spec = tie.close (tie.spec
    (λ c. omega arith) (λ c. omega arith) (λ c. omega arith) (λ c. omega arith) (λ c. omega arith) (λ c. search operand-none))
