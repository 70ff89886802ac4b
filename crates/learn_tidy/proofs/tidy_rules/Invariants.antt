-- The loop of `learn_tidy::tidy_rules`: the rules passed are tidied, and the others as found. Assumes nothing.
use Rattle.std.proofs.Common.{◌≡◌, ◌++◌, map, take, drop}
use Rattle.theory_tidying.specs.Tidying.{tidied_rule}
use Rattle.learn_tidy.proofs.tidy_rules.Given as goal

abbrev pub invariant-loop-r : goal.invariant-loop-r
invariant-loop-r l = l.rules ≡ map tidied_rule (take l.r-index l.initial.rules) ++ drop l.r-index l.initial.rules
