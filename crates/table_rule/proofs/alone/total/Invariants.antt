-- The loop's invariant of `table_rule::alone::total`: `sum` is the cost of the places passed. Assumes nothing.
use Rattle.std.proofs.Common.{◌*◌, ◌≤◌}
use Rattle.table_layout.specs.Layout.{full_in}
use Rattle.table_rule.proofs.Sums.{Summed}
use Rattle.table_rule.proofs.alone.total.Given as goal

abbrev pub invariant-loop-q : goal.invariant-loop-q
invariant-loop-q l = (l.sum ≤ 65536 * l.q) × Summed (full_in l.full) l.p l.r l.q l.sum
