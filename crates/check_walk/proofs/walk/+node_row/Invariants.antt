-- `node` and `row` call one another. With l nodes and p places left, the measure of `node` is 10 * l. The measure of `row` is
-- 10 * l + p + 1. Assumes nothing.
use Prim.Native.Nat.{◌+◌, ◌*◌, ◌-◌}
use Rattle.check_walk.proofs.walk.+node_row.Given as goal

abbrev pub decreases-node : goal.decreases-node
decreases-node l = (l.n - l.at) * 10

abbrev pub decreases-row : goal.decreases-row
decreases-row l = (l.n - l.at) * 10 + (8 - l.q) + 1
