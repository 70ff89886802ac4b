-- `print_step::step::reading` meets its contract: the line has the nodes at the front of the buffer and their length. Assumes nothing.
use native.Mathlib.Omega.{arith}
use lib.ListN.{length-take}
use Rattle.print_step.proofs.Measured.{kept_small, tenths-small, line-put}
use Rattle.print_step.proofs.step.reading.Statement.{statement}
use Rattle.print_step.proofs.step.reading.Tie as tie

put-line-requires : tie.Need-put_line-requires
put-line-requires c κs =
    let small = tenths-small _ _ _ _ c.before.before.total.ensures c.before.rounded-z.ensures in
    (omega arith, omega arith, omega arith, small, omega arith)

pub reading_spec : {M : Type 1} → statement M
reading_spec = tie.close (tie.spec
    (λ c. omega arith) (λ c. simp length-take (omega arith)) (λ c κs. (simp length-take (omega arith), omega arith))
    (λ c κs. kept_small c.total.result 16777216 (omega arith) c.total.ensures.1) (λ c. omega arith)
    put-line-requires (λ c. omega arith) (λ c. search line-put))
