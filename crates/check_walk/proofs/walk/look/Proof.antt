-- `check_walk::walk::look` meets its contract, one case for each way out. Assumes nothing.
use native.Mathlib.Omega.{arith}
use Rattle.check_walk.proofs.Tests.{look-end, look-not-end, look-node, look-far, look-late, look-byte, look-misfit, look-short}
use Rattle.check_walk.proofs.walk.look.Statement.{statement}
use Rattle.check_walk.proofs.walk.look.Tie as tie

pub look_spec : {M : Type 1} → statement M
look_spec = tie.close (tie.spec
    -- past the last place
    (λ c κs. omega arith) (λ c. search look-end) (λ c. search look-not-end)
    -- a nonterminal
    (λ c κs. omega arith) (λ c. omega arith) (λ c κs. omega arith) (λ c. omega arith) (λ c κs. omega arith) (λ c. search look-node)
    (λ c. search look-far) (λ c. search look-late)
    -- a terminal
    (λ c κs. omega arith) (λ c. search look-byte) (λ c. search look-misfit) (λ c. search look-short))
