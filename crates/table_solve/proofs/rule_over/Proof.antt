-- `table_solve::rule_over` meets its contract. Assumes nothing.
use borrow.Author.Rules.{rules}
use Rattle.table_solve.proofs.Over.{over-span, over-empty}
use Rattle.table_solve.proofs.rule_over.Statement.{statement}
use Rattle.table_solve.proofs.rule_over.Tie as tie

pub rule_over_spec : {M : Type 1} → statement M
rule_over_spec = tie.close (tie.spec
    (λ c κs. search rules) (λ c κs. search rules) (λ c κs. search rules) (λ c. search (rules, over-span))
    (λ c. search (rules, over-empty)))
