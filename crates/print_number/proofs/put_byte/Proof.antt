-- `print_number::put_byte` meets its contract. Assumes nothing.
use native.Mathlib.Omega.{arith}
use borrow.Author.Rules.{rules}
use Rattle.print_number.proofs.Writing.{put_one}
use Rattle.print_number.proofs.put_byte.Statement.{statement}
use Rattle.print_number.proofs.put_byte.Tie as tie

pub put_byte_spec : {M : Type 1} → statement M
put_byte_spec = tie.close (tie.spec (λ c. omega arith) (λ c. omega arith) (λ c. search rules) (λ c. search (put_one, rules)))
