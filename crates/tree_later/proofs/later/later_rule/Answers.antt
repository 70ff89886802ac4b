-- `later_rule`: what the calls require, no later rule, none within the budget, and one. Assumes nothing.
use Rattle.std.proofs.Common.{arith}
use Rattle.tree_later.proofs.LaterRules.{later-absent, later-none, later-some}
use Rattle.tree_later.proofs.later.later_rule.Goals as goal

pub returns-then-no_rule-clause-later : goal.returns-then-no_rule-clause-later
returns-then-no_rule-clause-later c = later-absent (omega arith) (c.no_rule.ensures c.if-no_rule.true)

pub returns-clause-later : goal.returns-clause-later
returns-clause-later c =
    later-some (omega arith) (omega arith) c.in_ok-s.ensures.opened c.in_ok-s.ensures.is_rule c.put_node.ensures c.row-n.ensures

pub returns-in_err-s-clause-later : goal.returns-in_err-s-clause-later
returns-in_err-s-clause-later c =
    rw c.from_residual.ensures (later-none (omega arith) (omega arith) c.in_err-s.ensures.opened (omega arith))
