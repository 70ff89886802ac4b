-- `fill_closure::look_again` meets its contract. Assumes nothing.
use native.Mathlib.Omega.{arith}
use Rattle.fill_closure.proofs.Looking.{looked-again, not-again}
use Rattle.fill_closure.proofs.look_again.Statement.{statement}
use Rattle.fill_closure.proofs.look_again.Tie as tie

pub look_again_spec : {M : Type 1} → statement M
look_again_spec = tie.close (tie.spec
    (λ c κs. omega arith) (λ c. omega arith) (λ c. omega arith) (λ c. search not-again) (λ c κs. omega arith) (λ c. search looked-again))
