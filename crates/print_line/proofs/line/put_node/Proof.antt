-- `print_line::line::put_node` meets its contract. Assumes nothing.
use native.Mathlib.Omega.{arith}
use Rattle.print_number.proofs.Decimal.{digits-16}
use Rattle.print_line.proofs.Lines.{room-cover, room-point, node_done, node-small}
use Rattle.print_line.proofs.line.put_node.Statement.{statement}
use Rattle.print_line.proofs.line.put_node.Tie as tie

put-decimal-requires-2 : tie.Need-put_decimal-requires
put-decimal-requires-2 c κs =
    let after-point = c.before.before.before in
    let after-cover = after-point.before.before.before.before in
    let after-space = after-cover.before.before.before.before in
    let numbers = after-space.before.before.before.ranges in
    omega (arith, digits-16 _ numbers.cover.fits, digits-16 _ numbers.rule.fits)

pub put_node_spec : {M : Type 1} → statement M
put_node_spec = tie.close (tie.spec
    (λ c κs. omega arith) (λ c κs. search room-cover) (λ c κs. search room-point) put-decimal-requires-2 (λ c. omega arith)
    (λ c. (search node_done, search node-small)))
