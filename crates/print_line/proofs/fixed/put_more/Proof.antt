-- `print_line::fixed::put_more` meets its contract. Assumes nothing.
use native.Mathlib.Omega.{arith}
use borrow.Author.Rules.{rules}
use Rattle.text.specs.Line.{readings_line}
use Rattle.print_line.proofs.fixed.put_more.Statement.{statement}
use Rattle.print_line.proofs.fixed.put_more.Tie as tie

pub put_more_spec : {M : Type 1} → statement M
unfolding readings_line
put_more_spec = tie.close (tie.spec (λ c κs. omega arith) (λ c. omega arith) (λ c. search rules))
