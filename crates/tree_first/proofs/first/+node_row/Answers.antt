-- `node` and `row` meet their contracts: what the calls require, and what is returned. Assumes nothing.
use Rattle.std.proofs.Common.{arith}
use Rattle.tree_first.proofs.RowSteps.{row-none, row-end, row-byte, row-node, byte-room, node-room}
use Rattle.tree_first.proofs.NodeSteps.{node-none, node-some}
use Rattle.tree_first.proofs.first.+node_row.Goals as goal

pub node-returns-in_err-r-clause-first : goal.node-returns-in_err-r-clause-first
node-returns-in_err-r-clause-first t c =
    rw c.from_residual.ensures (node-none (omega arith) (omega arith) c.own_set-mask.ensures c.in_err-r.ensures.opened (omega arith))

pub node-returns-clause-first : goal.node-returns-clause-first
node-returns-clause-first t c =
    node-some (omega arith) (omega arith) c.own_set-mask.ensures c.in_ok-r.ensures.opened c.in_ok-r.ensures.is_rule c.put_node.ensures
    c.row-n.ensures

pub row-invariant_of-tail-clause-of_places : goal.row-invariant_of-tail-clause-of_places
row-invariant_of-tail-clause-of_places t c = omega (arith, byte-room c.in-Byte.ensures)

pub row-invariant_of-tail-in-Node-clause-of_places : goal.row-invariant_of-tail-in-Node-clause-of_places
row-invariant_of-tail-in-Node-clause-of_places t c = omega (arith, node-room c.in-Node.ensures)

pub row-row-requires-in-Node : goal.row-row-requires-in-Node
row-row-requires-in-Node t c =
    let room = node-room c.in-Node.ensures in
    omega (arith, c.node.ensures.first.kept.few, c.node.ensures.first.kept.long, c.unwrap_or-m.ensures)

pub row-returns-in-No : goal.row-returns-in-No
row-returns-in-No t c = row-none _ _ _ (omega arith) (omega arith) (omega arith) c.in-No.ensures

pub row-returns-in-End : goal.row-returns-in-End
row-returns-in-End t c = row-end _ _ _ (omega arith) (omega arith) (omega arith) c.in-End.ensures

pub row-returns-in-Byte : goal.row-returns-in-Byte
row-returns-in-Byte t c = row-byte _ _ _ (omega arith) (omega arith) (omega arith) c.in-Byte.ensures c.row.ensures

pub row-returns-in-Node : goal.row-returns-in-Node
row-returns-in-Node t c =
    row-node _ _ _ (omega arith) (omega arith) (omega arith) c.child_set-mask.ensures
    (rw c.unwrap_or-m.ensures c.node.ensures.first) c.row-in-Node.ensures c.in-Node.ensures
