-- `table_cut::within::last_cost` meets its contract. Assumes nothing.
use borrow.Author.Rules.{rules}
use Rattle.table_cut.proofs.Inner.{last-whole, last-part}
use Rattle.table_cut.proofs.within.last_cost.Statement.{statement}
use Rattle.table_cut.proofs.within.last_cost.Tie as tie

pub last_cost_spec : {M : Type 1} → statement M
last_cost_spec = tie.close (tie.spec
    (λ c κs. search rules) (λ c κs. search rules) (λ c. search (rules, last-whole)) (λ c. search (rules, last-part)))
