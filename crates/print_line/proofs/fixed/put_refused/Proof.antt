-- `print_line::fixed::put_refused` meets its contract. Assumes nothing.
use native.Mathlib.Omega.{arith}
use Rattle.print_line.proofs.Lines.{room-byte, newline-after-byte, refused-done}
use Rattle.print_line.proofs.fixed.put_refused.Statement.{statement}
use Rattle.print_line.proofs.fixed.put_refused.Tie as tie

pub put_refused_spec : {M : Type 1} → statement M
put_refused_spec = tie.close (tie.spec
    (λ c κs. omega arith) (λ c κs. search room-byte) (λ c κs. search newline-after-byte) (λ c. omega arith)
    (λ c. search refused-done))
