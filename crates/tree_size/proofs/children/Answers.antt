-- The count of the nonterminals, place by place. Assumes nothing.
use Rattle.tree_size.proofs.Counts.{counted_start, counted_step, counted-end}
use Rattle.std.proofs.Common.{rules}
use Rattle.tree_size.proofs.children.Goals as goal

pub loop-q-init : goal.loop-q-init
loop-q-init c = search (rules, counted_start)

pub loop-q-preserved : goal.loop-q-preserved
loop-q-preserved c = search (rules, counted_step)

pub returns : goal.returns
returns c = search (rules, counted-end)
