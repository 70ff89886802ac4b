-- `table_all::ends::tabulate` meets its contract. Assumes nothing.
use native.Mathlib.Omega.{arith}
use borrow.Author.Rules.{rules}
use Rattle.table_all.proofs.Ending.{tabulated}
use Rattle.table_all.proofs.ends.tabulate.Statement.{statement}
use Rattle.table_all.proofs.ends.tabulate.Tie as tie

pub tabulate_spec : {M : Type 1} → statement M
tabulate_spec = tie.close (tie.spec
    (λ c. omega arith) (λ c κs. search rules) (λ c κs. search rules) (λ c κs. search rules) (λ c. search (rules, tabulated)))
