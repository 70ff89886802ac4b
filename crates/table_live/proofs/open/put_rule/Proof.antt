-- `table_live::open::put_rule` meets its contract. Assumes nothing.
use native.Mathlib.Omega.{arith}
use borrow.Author.Rules.{rules}
use Rattle.table_live.proofs.Opening.{rule-put}
use Rattle.table_live.proofs.open.put_rule.Statement.{statement}
use Rattle.table_live.proofs.open.put_rule.Tie as tie

pub put_rule_spec : {M : Type 1} → statement M
put_rule_spec = tie.close (tie.spec
    (λ c. omega arith) (λ c. search rules) (λ c κs. search rules) (λ c. omega arith) (λ c κs. search rules) (λ c κs. search rules)
    (λ c. search (rules, rule-put)))
