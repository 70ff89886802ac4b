-- `table_span::open_span` meets its contract. Assumes nothing.
use borrow.Author.Rules.{rules}
use Rattle.table_span.proofs.Opening.{span-opened}
use Rattle.table_span.proofs.open_span.Statement.{statement}
use Rattle.table_span.proofs.open_span.Tie as tie

pub open_span_spec : {M : Type 1} → statement M
open_span_spec = tie.close (tie.spec (λ c κs. search rules) (λ c κs. search rules) (λ c. search (rules, span-opened)))
