-- `check_length::nearest` meets its contract, by the last digit. Assumes nothing.
use native.Mathlib.Omega.{arith}
use Rattle.results.proofs.Rounding.{over-half, half, under-half}
use Rattle.check_length.proofs.nearest.Statement.{statement}
use Rattle.check_length.proofs.nearest.Tie as tie

pub nearest_spec : {M : Type 1} → statement M
nearest_spec = tie.close (tie.spec
    (λ c. omega arith) (λ c. omega arith)
    (λ c. (omega (arith, under-half c.before.args.n (omega arith)), omega arith))
    (λ c. (omega (arith, over-half c.before.before.args.n (omega arith)), omega arith))
    (λ c. (omega (arith, half c.before.before.before.args.n (omega arith)), omega arith))
    (λ c. (omega (arith, half c.before.before.before.args.n (omega arith)), omega arith)))
