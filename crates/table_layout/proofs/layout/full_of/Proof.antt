-- `table_layout::layout::full_of` meets its contract. Assumes nothing.
use native.Mathlib.Omega.{arith}
use borrow.Author.Rules.{rules}
use Rattle.table_layout.proofs.Entries.{full-read, full-none}
use Rattle.table_layout.proofs.layout.full_of.Statement.{statement}
use Rattle.table_layout.proofs.layout.full_of.Tie as tie

pub full_of_spec : {M : Type 1} → statement M
full_of_spec = tie.close (tie.spec
    (λ c. omega arith) (λ c. omega arith) (λ c. search (rules, full-read)) (λ c. search (rules, full-none)))
