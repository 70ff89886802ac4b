-- `node` and `row` call one another. Within a budget the measure of `node` is 20 * budget + 1, and that of `row` at place q is
-- 20 * budget + 11 - q. Assumes nothing.
use Rattle.std.proofs.Common.{◌+◌, ◌*◌, ◌-◌}
use Rattle.tree_first.proofs.first.+node_row.Given as goal

abbrev pub decreases-node : goal.decreases-node
decreases-node l = 20 * l.budget + 1

abbrev pub decreases-row : goal.decreases-row
decreases-row l = 20 * l.budget + (11 - l.tail.q)
