-- `table_solve::wanted` meets its contract. Assumes nothing.
use borrow.Author.Rules.{rules}
use Rattle.table_solve.proofs.Over.{wanted-masked, wanted-barren}
use Rattle.table_solve.proofs.wanted.Statement.{statement}
use Rattle.table_solve.proofs.wanted.Tie as tie

pub wanted_spec : {M : Type 1} → statement M
wanted_spec = tie.close (tie.spec
    (λ c κs. search rules) (λ c κs. search rules) (λ c. search (rules, wanted-masked)) (λ c. search (rules, wanted-barren)))
