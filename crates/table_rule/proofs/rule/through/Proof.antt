-- `table_rule::rule::through` meets its contract. Assumes nothing.
use borrow.Author.Rules.{rules}
use native.Mathlib.Omega.{arith}
use Rattle.table_rule.proofs.Through.{through_read}
use Rattle.table_rule.proofs.rule.through.Statement.{statement}
use Rattle.table_rule.proofs.rule.through.Tie as tie

pub through_spec : {M : Type 1} → statement M
through_spec = tie.close (tie.spec
    (λ c κs. search rules) (λ c κs. search rules) (λ c κs. search rules) (λ c. search (rules, through_read)) (λ c. omega arith))
