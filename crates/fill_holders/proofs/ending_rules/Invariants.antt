-- The loop of `fill_holders::ending_rules`: the set has such rules of those passed. Assumes nothing.
use Rattle.fill_holders.specs.Holders.{EndingRules}
use Rattle.fill_holders.proofs.ending_rules.Given as goal

abbrev pub invariant-loop-r : goal.invariant-loop-r
invariant-loop-r l = EndingRules l.p l.r l.fn.lasts l.s
