-- `table_live::open::open_rule` meets its contract. Assumes nothing.
use native.Mathlib.Omega.{arith}
use borrow.Author.Rules.{rules}
use Rattle.table_live.proofs.Opening.{rule-passed}
use Rattle.table_live.proofs.open.open_rule.Statement.{statement}
use Rattle.table_live.proofs.open.open_rule.Tie as tie

pub open_rule_spec : {M : Type 1} → statement M
open_rule_spec = tie.close (tie.spec
    (λ c. omega arith) (λ c. search rules) (λ c κs. search rules) (λ c κs. search rules) (λ c κs. search rules)
    (λ c. search rules) (λ c. search (rules, rule-passed)))
