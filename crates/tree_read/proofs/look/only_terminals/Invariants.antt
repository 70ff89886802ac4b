-- The loop of `only_terminals`: the places below q have only terminals. Assumes nothing.
use Rattle.tree_read.specs.Looked.{LeavesIn}
use Rattle.tree_read.proofs.look.only_terminals.Given as goal

abbrev pub invariant-loop-q : goal.invariant-loop-q
invariant-loop-q l = LeavesIn l.p l.r l.from l.q
