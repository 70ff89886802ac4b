-- `packed_fit::put_at` meets its contract. Assumes nothing.
use native.Mathlib.Omega.{arith}
use Rattle.packed_fit.proofs.Entries.{unfit, fitted}
use Rattle.packed_fit.proofs.put_at.Statement.{statement}
use Rattle.packed_fit.proofs.put_at.Tie as tie

pub put_at_spec : {M : Type 1} → statement M
put_at_spec = tie.close (tie.spec
    (λ c κs. omega arith) (λ c. omega arith) (λ c. omega arith) (λ c. omega arith) (λ c κs. omega arith) (λ c. omega arith)
    (λ c. omega arith) (λ c. omega arith) (λ c. search fitted) (λ c. search unfit))
