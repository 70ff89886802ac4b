-- The measure of `reach` is the number of places left, 9 - q. Assumes nothing.
use Rattle.std.proofs.Common.{◌-◌}
use Rattle.tree_read.proofs.reach.+reach.Given as goal

abbrev pub decreases-reach : goal.decreases-reach
decreases-reach l = 9 - l.q
