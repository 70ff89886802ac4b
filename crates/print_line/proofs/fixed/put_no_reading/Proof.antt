-- `print_line::fixed::put_no_reading` meets its contract. Assumes nothing.
use native.Mathlib.Omega.{arith}
use borrow.Author.Rules.{rules}
use Rattle.text.specs.Line.{no_reading_line}
use Rattle.print_line.proofs.fixed.put_no_reading.Statement.{statement}
use Rattle.print_line.proofs.fixed.put_no_reading.Tie as tie

pub put_no_reading_spec : {M : Type 1} → statement M
unfolding no_reading_line
put_no_reading_spec = tie.close (tie.spec (λ c κs. omega arith) (λ c. omega arith) (λ c. search rules))
