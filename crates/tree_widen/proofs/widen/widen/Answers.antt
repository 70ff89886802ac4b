-- `widen`: no wider end, no node, and a wider node. Assumes nothing.
use Rattle.std.proofs.Common.{arith}
use Rattle.tree_widen.proofs.WiderNodes.{widen_none, widen-empty, widen-some}
use Rattle.tree_widen.proofs.widen.widen.Goals as goal

pub returns-in_err-c-clause-wider : goal.returns-in_err-c-clause-wider
returns-in_err-c-clause-wider c =
    rw c.from_residual.ensures (widen_none (omega arith) (omega arith) (omega arith) c.in_err-c.ensures.chosen (omega arith))

pub returns-in_err-m-clause-wider : goal.returns-in_err-m-clause-wider
returns-in_err-m-clause-wider c =
    rw c.from_residual-in_err-m.ensures
    (widen-empty (omega arith) (omega arith) (omega arith) c.in_ok-c.ensures.chosen c.in_ok-c.ensures.inside
    c.child_set-mask.ensures c.from.ensures c.in_err-m.ensures.first (omega arith))

pub returns-clause-wider : goal.returns-clause-wider
returns-clause-wider c =
    widen-some (omega arith) (omega arith) (omega arith) c.in_ok-c.ensures.chosen c.in_ok-c.ensures.inside
    c.child_set-mask.ensures c.from.ensures c.in_ok-m.ensures.first c.row-n.ensures
