-- `node` and `row` meet their contracts: what the calls require, and what is returned. Assumes nothing.
use Rattle.std.proofs.Common.{rules, arith}
use Rattle.check_walk.proofs.Steps.{node-none, node-some, row-none, row-end, row-byte, row-node-none, row-node-some, byte-room}
use Rattle.check_walk.proofs.Steps.{node-room, walk-room}
use Rattle.check_walk.proofs.walk.+node_row.Goals as goal

pub node-returns-in_err-r-clause-walked : goal.node-returns-in_err-r-clause-walked
node-returns-in_err-r-clause-walked t c = rw c.from_residual.ensures (search (rules, node-none))

pub node-returns-clause-walked : goal.node-returns-clause-walked
node-returns-clause-walked t c = search (rules, node-some)

pub row-overflow_add-q : goal.row-overflow_add-q
row-overflow_add-q t c = let b = byte-room c.in-Byte.ensures in omega arith

pub row-row-requires : goal.row-row-requires
row-row-requires t c = let b = byte-room c.in-Byte.ensures in omega arith

pub row-returns-in_err-next-in-Node-clause-walked : goal.row-returns-in_err-next-in-Node-clause-walked
row-returns-in_err-next-in-Node-clause-walked t c = rw c.from_residual.ensures (search (rules, row-node-none))

pub row-overflow_add-q-in-Node : goal.row-overflow_add-q-in-Node
row-overflow_add-q-in-Node t c = let b = node-room c.in-Node.ensures in omega arith

pub row-row-requires-in-Node : goal.row-row-requires-in-Node
row-row-requires-in-Node t c =
    let b = node-room c.in-Node.ensures in
    omega (arith, walk-room c.in_ok-next-in-Node.ensures.walked c.in_ok-next-in-Node.ensures.inside)

pub row-returns-in-No-clause-walked : goal.row-returns-in-No-clause-walked
row-returns-in-No-clause-walked t c = search (rules, row-none)

pub row-returns-in-End-clause-walked : goal.row-returns-in-End-clause-walked
row-returns-in-End-clause-walked t c = search (rules, row-end)

pub row-returns-in-Byte-clause-walked : goal.row-returns-in-Byte-clause-walked
row-returns-in-Byte-clause-walked t c = search (rules, row-byte)

pub row-returns-in_ok-next-in-Node-clause-walked : goal.row-returns-in_ok-next-in-Node-clause-walked
row-returns-in_ok-next-in-Node-clause-walked t c = search (rules, row-node-some)
