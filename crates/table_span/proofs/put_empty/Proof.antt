-- `table_span::put_empty` meets its contract. Assumes nothing.
use borrow.Author.Rules.{rules}
use Rattle.table_span.proofs.Closing.{empty-put}
use Rattle.table_span.proofs.put_empty.Statement.{statement}
use Rattle.table_span.proofs.put_empty.Tie as tie

pub put_empty_spec : {M : Type 1} → statement M
put_empty_spec = tie.close (tie.spec (λ c κs. search rules) (λ c κs. search rules) (λ c. search (rules, empty-put)))
