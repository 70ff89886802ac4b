-- `table_span::put_span` meets its contract. Assumes nothing.
use borrow.Author.Rules.{rules}
use Rattle.table_span.proofs.Closing.{span-put}
use Rattle.table_span.proofs.put_span.Statement.{statement}
use Rattle.table_span.proofs.put_span.Tie as tie

pub put_span_spec : {M : Type 1} → statement M
put_span_spec = tie.close (tie.spec
    (λ c κs. search rules) (λ c κs. search rules) (λ c κs. search rules) (λ c κs. search rules) (λ c. search (rules, span-put)))
