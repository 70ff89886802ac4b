-- The loop's invariant of `table_rule::alone::put_alone`: the `alone` costs of the places passed are written. Assumes nothing.
use Rattle.table_rule.specs.Rule.{AloneBefore}
use Rattle.table_rule.proofs.alone.put_alone.Given as goal

abbrev pub invariant-loop-q : goal.invariant-loop-q
invariant-loop-q l = AloneBefore l.p l.r l.empty l.q l.initial.tables l.tables
