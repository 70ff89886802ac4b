-- `fill_columns::open_with` meets its contract. Assumes nothing.
use borrow.Author.Rules.{rules}
use native.Mathlib.Omega.{arith}
use Rattle.fill_columns.proofs.Filling.{opened_with}
use Rattle.fill_columns.proofs.open_with.Statement.{statement}
use Rattle.fill_columns.proofs.open_with.Tie as tie

pub open_with_spec : {M : Type 1} → statement M
open_with_spec = tie.close (tie.spec (λ c κs. omega arith) (λ c. omega arith) (λ c. search rules) (λ c. search opened_with))
