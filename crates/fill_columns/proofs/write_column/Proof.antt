-- `fill_columns::write_column` meets its contract. Assumes nothing.
use borrow.Author.Rules.{rules}
use native.Mathlib.Omega.{arith}
use Rattle.fill_columns.proofs.Filling.{column-of}
use Rattle.fill_columns.proofs.write_column.Statement.{statement}
use Rattle.fill_columns.proofs.write_column.Tie as tie

pub write_column_spec : {M : Type 1} → statement M
write_column_spec = tie.close (tie.spec
    (λ c κs. omega arith) (λ c κs. omega arith) (λ c κs. omega arith) (λ c κs. omega arith) (λ c κs. search rules) (λ c. omega arith)
    (λ c. search column-of))
