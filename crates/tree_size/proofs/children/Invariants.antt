-- The loop of `children`: n is the number of nonterminals at the places that were passed. Assumes nothing.
use Rattle.std.proofs.Common.{◌≤◌}
use Rattle.tree_size.proofs.Counts.{Counted}
use Rattle.tree_size.proofs.children.Given as goal

abbrev pub invariant-loop-q : goal.invariant-loop-q
invariant-loop-q l = (l.n ≤ l.q) × Counted l.p l.r l.q l.n
