-- The loop's invariant of `table_cut::suffix::over_ends`: `best` is the least over the ends passed. Assumes nothing.
use Rattle.std.proofs.Common.{◌≤◌}
use Rattle.sizes.specs.Sizes.{too_many}
use Rattle.table_cut.specs.Suffix.{EndsBefore}
use Rattle.table_cut.proofs.suffix.over_ends.Given as goal

abbrev pub invariant-loop-c : goal.invariant-loop-c
invariant-loop-c l = (l.best ≤ too_many) × EndsBefore l.tables l.k l.a l.from l.b l.last l.rests l.at l.c l.best
