-- `table_layout::layout::cost` meets its contract. Assumes nothing.
use native.Mathlib.Omega.{arith}
use borrow.Author.Rules.{rules}
use Rattle.table_layout.proofs.Entries.{cost-read, cost-none}
use Rattle.table_layout.proofs.layout.cost.Statement.{statement}
use Rattle.table_layout.proofs.layout.cost.Tie as tie

pub cost_spec : {M : Type 1} → statement M
cost_spec = tie.close (tie.spec
    (λ c. omega arith) (λ c. omega arith) (λ c. omega arith) (λ c. omega arith) (λ c. omega arith) (λ c. omega arith)
    (λ c. search (rules, cost-read)) (λ c. search (rules, cost-none)))
