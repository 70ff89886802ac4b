-- The functions of the cycle meet their contracts: what the calls require, and what is returned. Assumes nothing.
use Rattle.std.proofs.Common.{rules, arith}
use Rattle.tree_read.proofs.Reading.{byte-room, node-room}
use Rattle.tree_read.proofs.Reaching.{reach-room}
use Rattle.tree_next.proofs.RowSteps.{row-none, row-end, row-byte, row_last, row-rest, row-child}
use Rattle.tree_next.proofs.ChildSteps.{child-dear, child-moved}
use Rattle.tree_next.proofs.LastSteps.{last-still, last-moves}
use Rattle.tree_next.proofs.NodeSteps.{node-none, node-last-moves, node-turned, turned-moves, turned-later}
use Rattle.tree_next.proofs.+child_last_node_row_turned.Goals as goal

-- ---- child

pub child::child-returns-then-rest-budget-clause-next : goal.child::child-returns-then-rest-budget-clause-next
child::child-returns-then-rest-budget-clause-next t c =
    child-dear (omega arith) (omega arith) (omega arith) c.rest_of-rest.ensures (omega arith)

pub child::child-returns-clause-next : goal.child::child-returns-clause-next
child::child-returns-clause-next t c =
    child-moved (omega arith) (omega arith) (omega arith) c.rest_of-rest.ensures (omega arith) c.child_set-mask.ensures
    c.node-m.ensures.next c.moved.ensures.row

-- ---- last

pub last::last-returns-in_err-n-clause-next : goal.last::last-returns-in_err-n-clause-next
last::last-returns-in_err-n-clause-next t c =
    rw c.from_residual-in_err-n.ensures (last-still c.in_ok-k.ensures c.child_set-mask.ensures c.in_err-n.ensures.next (omega arith))

pub last::last-overflow_add-result : goal.last::last-overflow_add-result
last::last-overflow_add-result t c = omega (arith, reach-room c.in_ok-k.ensures, c.in_ok-n.ensures.next.kept.few)

pub last::last-returns-clause-next : goal.last::last-returns-clause-next
last::last-returns-clause-next t c =
    last-moves c.in_ok-k.ensures c.child_set-mask.ensures c.in_ok-n.ensures.next c.in_ok-n.ensures.has_nodes

-- ---- node

pub next::node-returns-in_err-r-clause-next : goal.next::node-returns-in_err-r-clause-next
next::node-returns-in_err-r-clause-next t c =
    rw c.from_residual.ensures (node-none (omega arith) c.in_err-r.ensures.read (omega arith))

pub next::node-returns-in-Some-clause-next : goal.next::node-returns-in-Some-clause-next
next::node-returns-in-Some-clause-next t c =
    node-last-moves (omega arith) c.in_ok-r.ensures.read c.own_set-mask.ensures c.in_ok-r.ensures.is_rule c.in-Some.ensures.next
    c.in-Some.ensures.has_nodes

pub next::node-returns-clause-next : goal.next::node-returns-clause-next
next::node-returns-clause-next t c =
    node-turned (omega arith) c.in_ok-r.ensures.read c.own_set-mask.ensures c.in_ok-r.ensures.is_rule c.in_default.ensures.next (omega arith)
    c.turned.ensures.next

-- ---- row

pub row::row-invariant_of-tail-clause-of_places : goal.row::row-invariant_of-tail-clause-of_places
row::row-invariant_of-tail-clause-of_places t c = omega (arith, byte-room c.in-Byte.ensures)

pub row::row-invariant_of-tail-in-Node-clause-of_places : goal.row::row-invariant_of-tail-in-Node-clause-of_places
row::row-invariant_of-tail-in-Node-clause-of_places t c = omega (arith, node-room c.in-Node.ensures)

pub row::row-row-requires : goal.row::row-row-requires
row::row-row-requires t c =
    let room = byte-room c.in-Byte.ensures in
    (omega arith, (omega arith, c.requires.1))

pub row::row-row-later-requires : goal.row::row-row-later-requires
row::row-row-later-requires t c =
    let room = node-room c.in-Node.ensures in
    (omega arith, (omega arith, c.requires.1))

pub row::row-child-requires : goal.row::row-child-requires
row::row-child-requires t c =
    let room = node-room c.in-Node.ensures in
    let long = c.row-later.ensures.next.kept.long in
    (omega arith, (omega arith, c.row-later.ensures.next.frame))

pub row::row-returns-in-No-clause-next : goal.row::row-returns-in-No-clause-next
row::row-returns-in-No-clause-next t c = row-none (omega arith) (omega arith) c.requires.1 c.in-No.ensures

pub row::row-returns-in-End-clause-next : goal.row::row-returns-in-End-clause-next
row::row-returns-in-End-clause-next t c = row-end (omega arith) (omega arith) c.requires.1 c.in-End.ensures

pub row::row-returns-in-Byte-clause-next : goal.row::row-returns-in-Byte-clause-next
row::row-returns-in-Byte-clause-next t c = row-byte (omega arith) (omega arith) c.in-Byte.ensures c.row.ensures.next

pub row::row-returns-in-Final-clause-next : goal.row::row-returns-in-Final-clause-next
row::row-returns-in-Final-clause-next t c = row_last (omega arith) (omega arith) c.requires.1 c.in-Final.ensures

pub row::row-returns-in-Some-clause-next : goal.row::row-returns-in-Some-clause-next
row::row-returns-in-Some-clause-next t c =
    row-rest (omega arith) (omega arith) c.in-Some.ensures.next c.in-Node.ensures c.in-Some.ensures.has_nodes

pub row::row-returns-in_default-clause-next : goal.row::row-returns-in_default-clause-next
row::row-returns-in_default-clause-next t c =
    row-child (omega arith) (omega arith) c.row-later.ensures.next c.in-Node.ensures (search rules) c.child.ensures.next

-- ---- turned

pub turned::turned-returns-in-Some-clause-next : goal.turned::turned-returns-in-Some-clause-next
turned::turned-returns-in-Some-clause-next t c =
    turned-moves (omega arith) c.in-Some.ensures.next (omega arith) c.in-Some.ensures.has_nodes

pub turned::turned-returns-clause-next : goal.turned::turned-returns-clause-next
turned::turned-returns-clause-next t c =
    turned-later (omega arith) c.in_default.ensures.next (omega arith) c.later_rule.ensures.later
