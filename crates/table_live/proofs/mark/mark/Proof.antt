-- `table_live::mark::mark` meets its contract. Assumes nothing.
use native.Mathlib.Omega.{arith}
use borrow.Author.Rules.{rules}
use Rattle.table_live.proofs.Marking.{marked-live, marked-not}
use Rattle.table_live.proofs.mark.mark.Statement.{statement}
use Rattle.table_live.proofs.mark.mark.Tie as tie

pub mark_spec : {M : Type 1} → statement M
mark_spec = tie.close (tie.spec
    (λ c κs. search rules) (λ c. omega arith) (λ c. search rules) (λ c κs. search rules) (λ c. omega arith) (λ c. search rules)
    (λ c. search (rules, marked-live)) (λ c. search (rules, marked-not)))
