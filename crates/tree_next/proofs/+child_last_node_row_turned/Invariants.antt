-- The measures of the cycle {child, last, node, row, turned}. Within a budget, the measure of `turned` is 20 * budget + 1, of `node`
-- 20 * budget + 2, of `child` and `last` 20 * budget + 3, and of `row` at place q 20 * budget + 12 - q. Assumes nothing.
use Rattle.std.proofs.Common.{◌+◌, ◌*◌, ◌-◌}
use Rattle.tree_next.proofs.+child_last_node_row_turned.Given as goal

abbrev pub decreases-child::child : goal.decreases-child::child
decreases-child::child l = 20 * l.room.budget + 3

abbrev pub decreases-last::last : goal.decreases-last::last
decreases-last::last l = 20 * l.room.budget + 3

abbrev pub decreases-next::node : goal.decreases-next::node
decreases-next::node l = 20 * l.budget + 2

abbrev pub decreases-row::row : goal.decreases-row::row
decreases-row::row l = 20 * l.budget + (12 - l.tail.q)

abbrev pub decreases-turned::turned : goal.decreases-turned::turned
decreases-turned::turned l = 20 * l.room.budget + 1
