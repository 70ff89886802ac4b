-- `fill_columns::fill` meets its contract. Assumes nothing.
use borrow.Author.Rules.{rules}
use native.Mathlib.Omega.{arith}
use Rattle.fill_columns.proofs.Filling.{filled_is}
use Rattle.fill_columns.proofs.fill.Statement.{statement}
use Rattle.fill_columns.proofs.fill.Tie as tie

pub fill_spec : {M : Type 1} → statement M
fill_spec = tie.close (tie.spec
    (λ c κs. omega arith) (λ c κs. omega arith) (λ c κs. omega arith) (λ c κs. search rules) (λ c. omega arith) (λ c. search filled_is))
