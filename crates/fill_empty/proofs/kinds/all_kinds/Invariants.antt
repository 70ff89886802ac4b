-- The loop's invariant: the kinds of the rules passed are stored. Assumes nothing.
use Rattle.fill_empty.proofs.Gather.{AllTo}
use Rattle.fill_empty.proofs.kinds.all_kinds.Given as goal

abbrev pub invariant-loop-r : goal.invariant-loop-r
invariant-loop-r l = AllTo l.p l.rules l.lasts l.r l.kinds
