-- The loop's invariant of `table_rule::alone::fill_alone`: the `alone` costs of the rules passed are right. Assumes nothing.
use Rattle.table_rule.specs.Rule.{AlonesFilled}
use Rattle.table_rule.proofs.alone.fill_alone.Given as goal

abbrev pub invariant-loop-r : goal.invariant-loop-r
invariant-loop-r l = AlonesFilled l.p l.empty l.r l.tables
