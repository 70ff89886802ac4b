-- `print_line::line::put_end` meets its contract. Assumes nothing.
use native.Mathlib.Omega.{arith}
use Rattle.print_line.proofs.Lines.{end-done}
use borrow.Author.Rules.{rules}
use Rattle.print_line.proofs.line.put_end.Statement.{statement}
use Rattle.print_line.proofs.line.put_end.Tie as tie

pub put_end_spec : {M : Type 1} → statement M
put_end_spec = tie.close (tie.spec
    (λ c κs. omega arith) (λ c κs. search rules) (λ c κs. omega arith) (λ c. omega arith) (λ c. search end-done))
