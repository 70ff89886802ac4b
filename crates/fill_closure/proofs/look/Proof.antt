-- `fill_closure::look` meets its contract. Assumes nothing.
use native.Mathlib.Omega.{arith}
use Rattle.fill_closure.proofs.Looking.{looked}
use Rattle.fill_closure.proofs.look.Statement.{statement}
use Rattle.fill_closure.proofs.look.Tie as tie

pub look_spec : {M : Type 1} → statement M
look_spec = tie.close (tie.spec
    (λ c κs. omega arith) (λ c. omega arith) (λ c. omega arith) (λ c κs. omega arith) (λ c. omega arith) (λ c. omega arith)
    (λ c κs. omega arith) (λ c. search looked))
