-- `fill_columns::write::column` meets its contract. Assumes nothing.
use borrow.Author.Rules.{rules}
use native.Mathlib.Omega.{arith}
use Rattle.fill_columns.proofs.Writing.{column-written, column-length}
use Rattle.fill_columns.proofs.write.column.Statement.{statement}
use Rattle.fill_columns.proofs.write.column.Tie as tie

pub column_spec : {M : Type 1} → statement M
column_spec = tie.close (tie.spec
    (λ c. omega arith) (λ c. omega arith) (λ c. omega arith) (λ c. omega arith) (λ c κs. search rules) (λ c. search column-length)
    (λ c. search column-written))
