-- `table_layout::bare::bare` meets its contract. Assumes nothing.
use native.Mathlib.Omega.{arith}
use borrow.Author.Rules.{rules}
use Rattle.table_layout.proofs.Bares.{bare-read}
use Rattle.table_layout.proofs.bare.bare.Statement.{statement}
use Rattle.table_layout.proofs.bare.bare.Tie as tie

pub bare_spec : {M : Type 1} → statement M
bare_spec = tie.close (tie.spec (λ c κs. search rules) (λ c. omega arith) (λ c. omega arith) (λ c. search (rules, bare-read)))
