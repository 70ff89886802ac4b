-- The loop of `size`: the nodes that were passed are within the buffer, each added at most eight children, and the rest of a tree at `at`
-- is a row for the children to come. The measure is the room left. Assumes nothing.
use Rattle.std.proofs.Common.{◌+◌, ◌*◌, ◌-◌, ◌≤◌}
use Rattle.sizes.specs.Sizes.{max_nodes}
use Rattle.tree_size.proofs.Walk.{Walked}
use Rattle.tree_size.proofs.size.Given as goal

abbrev pub invariant-loop-todo : goal.invariant-loop-todo
invariant-loop-todo l = (l.at + l.n ≤ max_nodes) × (l.todo ≤ 8 * (l.n + 1)) × Walked l.p l.buf l.at l.n l.todo

abbrev pub decreases-loop-todo : goal.decreases-loop-todo
decreases-loop-todo l = max_nodes - l.n
