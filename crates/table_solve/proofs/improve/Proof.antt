-- `table_solve::improve` meets its contract. Assumes nothing.
use native.Mathlib.Omega.{arith}
use borrow.Author.Rules.{rules}
use Rattle.table_solve.proofs.Lowering.{improved-lower, improved-same, improved-not, improved-hole}
use Rattle.table_solve.proofs.improve.Statement.{statement}
use Rattle.table_solve.proofs.improve.Tie as tie

pub improve_spec : {M : Type 1} → statement M
improve_spec = tie.close (tie.spec
    -- the calls of `left`, `wanted` and `rule_over`
    (λ c κs. search rules) (λ c κs. search rules) (λ c κs. search rules)
    -- v < full[k], and full[k] = v
    (λ c. omega arith) (λ c. omega arith) (λ c. omega arith) (λ c. omega arith)
    -- the returns
    (λ c. search (rules, improved-lower)) (λ c. search (rules, improved-same)) (λ c. search (rules, improved-not))
    (λ c. search (rules, improved-hole)))
