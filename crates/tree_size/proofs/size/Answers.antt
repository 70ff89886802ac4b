-- `size`: the walk over the nodes of the tree, and its ways out. Assumes nothing.
use Rattle.std.proofs.Common.{rules}
use Rattle.tree_size.proofs.Walk.{walked_start, walked_step, sized-no-rule, sized-done}
use Rattle.tree_size.proofs.size.Goals as goal

pub loop-todo-init : goal.loop-todo-init
loop-todo-init c = search (rules, walked_start)

pub returns-then-r-ge-MAX_RULES : goal.returns-then-r-ge-MAX_RULES
returns-then-r-ge-MAX_RULES c = search (rules, sized-no-rule)

pub loop-todo-preserved : goal.loop-todo-preserved
loop-todo-preserved c = search (rules, walked_step)

pub returns : goal.returns
returns c = search (rules, sized-done)
