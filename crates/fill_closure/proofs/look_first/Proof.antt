-- `fill_closure::look_first` meets its contract. Assumes nothing.
use borrow.Author.Rules.{rules}
use native.Mathlib.Omega.{arith}
use Rattle.fill_closure.proofs.Looking.{passed_over}
use Rattle.fill_closure.proofs.look_first.Statement.{statement}
use Rattle.fill_closure.proofs.look_first.Tie as tie

pub look_first_spec : {M : Type 1} → statement M
look_first_spec = tie.close (tie.spec
    (λ c κs. omega arith) (λ c. omega arith) (λ c. omega arith) (λ c. omega arith) (λ c. omega arith) (λ c. search passed_over)
    (λ c κs. omega arith) (λ c. search rules))
