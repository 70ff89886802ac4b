-- `table_layout::bare::span_at` meets its contract. Assumes nothing.
use native.Mathlib.Omega.{arith}
use borrow.Author.Rules.{rules}
use Rattle.table_layout.proofs.Bares.{span-low, span-high}
use Rattle.table_layout.proofs.bare.span_at.Statement.{statement}
use Rattle.table_layout.proofs.bare.span_at.Tie as tie

pub span_at_spec : {M : Type 1} → statement M
span_at_spec = tie.close (tie.spec
    (λ c. omega arith) (λ c. omega arith) (λ c. omega arith) (λ c. omega arith) (λ c. omega arith) (λ c. omega arith) (λ c. omega arith)
    (λ c. omega arith) (λ c. (search (rules, span-low), search rules)) (λ c. (search (rules, span-high), search rules)))
