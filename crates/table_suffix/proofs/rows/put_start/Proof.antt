-- `table_suffix::rows::put_start` meets its contract. Assumes nothing.
use borrow.Author.Rules.{rules}
use Rattle.table_suffix.proofs.AllStarts.{start-put}
use Rattle.table_suffix.proofs.rows.put_start.Statement.{statement}
use Rattle.table_suffix.proofs.rows.put_start.Tie as tie

pub put_start_spec : {M : Type 1} → statement M
put_start_spec = tie.close (tie.spec (λ c κs. search rules) (λ c κs. search rules) (λ c. search rules) (λ c. search (rules, start-put)))
