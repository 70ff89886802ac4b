-- `print_line::fixed::put_readings` meets its contract. Assumes nothing.
use native.Mathlib.Omega.{arith}
use Rattle.print_line.proofs.Lines.{room-number, newline-after-number, readings-done}
use Rattle.print_line.proofs.fixed.put_readings.Statement.{statement}
use Rattle.print_line.proofs.fixed.put_readings.Tie as tie

pub put_readings_spec : {M : Type 1} → statement M
put_readings_spec = tie.close (tie.spec
    (λ c κs. omega arith) (λ c κs. search room-number) (λ c κs. search newline-after-number) (λ c. omega arith)
    (λ c. search readings-done))
