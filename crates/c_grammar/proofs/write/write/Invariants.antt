-- The rules passed are written after the first three numbers. Assumes nothing.
use Rattle.sizes.specs.Sizes.{max_rules}
use Rattle.c_grammar.specs.Flat.{flat_rule, rule_numbers}
use Rattle.c_grammar.proofs.Written.{Written}
use Rattle.c_grammar.proofs.write.write.Given as goal

abbrev pub invariant-loop-r : goal.invariant-loop-r
invariant-loop-r l = Written flat_rule rule_numbers 3 l.rule-items max_rules l.initial.f l.r l.f
