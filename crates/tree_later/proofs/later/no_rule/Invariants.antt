-- The loop of `no_rule`: no rule from `from` on and below r is of k. Assumes nothing.
use Rattle.tree_later.specs.Beyond.{NoRules}
use Rattle.tree_later.proofs.later.no_rule.Given as goal

abbrev pub invariant-loop-r : goal.invariant-loop-r
invariant-loop-r l = NoRules l.p l.from l.r l.k
