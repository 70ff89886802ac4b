-- The loop's invariant of `table_rule::rule::rule_cost`: `best` is the least for the places passed. Assumes nothing.
use Rattle.table_rule.specs.Rule.{PlacesBefore}
use Rattle.table_rule.proofs.rule.rule_cost.Given as goal

abbrev pub invariant-loop-q : goal.invariant-loop-q
invariant-loop-q l = PlacesBefore l.p l.r l.full l.tables l.bare l.q l.best
