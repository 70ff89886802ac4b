-- `table_layout::bare::bare_at` meets its contract. Assumes nothing.
use native.Mathlib.Omega.{arith}
use borrow.Author.Rules.{rules}
use Rattle.table_layout.proofs.Bares.{bare-placed}
use Rattle.table_layout.proofs.bare.bare_at.Statement.{statement}
use Rattle.table_layout.proofs.bare.bare_at.Tie as tie

pub bare_at_spec : {M : Type 1} → statement M
bare_at_spec = tie.close (tie.spec
    (λ c κs. search rules) (λ c. omega arith) (λ c. omega arith) (λ c. omega arith) (λ c. (search (rules, bare-placed), search rules)))
