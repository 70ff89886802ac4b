-- The rules passed are read. Assumes nothing.
use Rattle.sizes.specs.Sizes.{max_rules}
use Rattle.c_grammar.specs.Flat.{rule_numbers, row_rule}
use Rattle.c_grammar.proofs.Records.{Read}
use Rattle.c_grammar.proofs.read.read.Given as goal

abbrev pub invariant-loop-r : goal.invariant-loop-r
invariant-loop-r l = Read (row_rule l.f) rule_numbers 3 max_rules l.r l.rule-items
