-- `fill_empty::kinds::kind_at` meets its contract. Assumes nothing.
use native.Mathlib.Omega.{arith}
use Rattle.fill_empty.proofs.Gather.{kind-behind, kind-terminal, kind-high, kind-in}
use Rattle.fill_empty.proofs.kinds.kind_at.Statement.{statement}
use Rattle.fill_empty.proofs.kinds.kind_at.Tie as tie

pub kind_at_spec : {M : Type 1} → statement M
kind_at_spec = tie.close (tie.spec
    (λ c. omega arith) (λ c κs. omega arith) (λ c κs. omega arith) (λ c κs. omega arith) (λ c κs. omega arith) (λ c. search kind-in)
    (λ c. search kind-high) (λ c. search kind-terminal) (λ c. search kind-behind))
