-- `print_line::line::put_line` meets its contract. Assumes nothing.
use native.Mathlib.Omega.{arith}
use borrow.Author.Rules.{rules}
use Rattle.print_number.proofs.Decimal.{digits-16}
use Rattle.print_line.proofs.Lines.{through-size, room-place, room-colon, room-nodes, line-done}
use Rattle.print_line.proofs.line.put_line.Statement.{statement}
use Rattle.print_line.proofs.line.put_line.Tie as tie

put-end-requires : tie.Need-put_end-requires
put-end-requires c κs =
    let after-nodes = c.before.before.before in
    let after-colon = after-nodes.before.before.before.before in
    let after-place = after-colon.before.before.before.before in
    let place = after-place.before.before.before.before.args.place in
    (search through-size, omega (arith, digits-16 place (omega arith)))

pub put_line_spec : {M : Type 1} → statement M
put_line_spec = tie.close (tie.spec
    (λ c κs. search room-place) (λ c κs. search room-colon) (λ c κs. search (room-nodes, rules)) put-end-requires
    (λ c. omega arith) (λ c. search line-done))
