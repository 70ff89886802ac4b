-- `table_cut::suffix::at_terminal` meets its contract. Assumes nothing.
use native.Mathlib.Omega.{arith}
use borrow.Author.Rules.{rules}
use Rattle.table_cut.proofs.Places.{terminal-fits, terminal-misfit, terminal-no-byte}
use Rattle.table_cut.proofs.suffix.at_terminal.Statement.{statement}
use Rattle.table_cut.proofs.suffix.at_terminal.Tie as tie

pub at_terminal_spec : {M : Type 1} → statement M
at_terminal_spec = tie.close (tie.spec
    (λ c. omega arith) (λ c. omega arith) (λ c. omega arith) (λ c. omega arith) (λ c. search (rules, terminal-fits))
    (λ c. search (rules, terminal-misfit)) (λ c. search (rules, terminal-no-byte)))
