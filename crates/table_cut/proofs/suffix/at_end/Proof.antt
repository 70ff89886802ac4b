-- `table_cut::suffix::at_end` meets its contract. Assumes nothing.
use borrow.Author.Rules.{rules}
use Rattle.table_cut.proofs.Places.{end_short, end-there}
use Rattle.table_cut.proofs.suffix.at_end.Statement.{statement}
use Rattle.table_cut.proofs.suffix.at_end.Tie as tie

pub at_end_spec : {M : Type 1} → statement M
at_end_spec = tie.close (tie.spec (λ c. search (rules, end_short)) (λ c. search (rules, end-there)))
