-- `table_live::open::first_end` meets its contract. Assumes nothing.
use native.Mathlib.Omega.{arith}
use borrow.Author.Rules.{rules}
use Rattle.table_live.proofs.Marking.{end-there, end-next}
use Rattle.table_live.proofs.open.first_end.Statement.{statement}
use Rattle.table_live.proofs.open.first_end.Tie as tie

pub first_end_spec : {M : Type 1} → statement M
first_end_spec = tie.close (tie.spec
    (λ c κs. search rules) (λ c κs. search rules) (λ c. omega arith) (λ c. search (rules, end-there)) (λ c. search (rules, end-next)))
