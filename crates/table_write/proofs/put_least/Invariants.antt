-- The loop's invariant of `table_write::put_least`: the numbers of the nonterminals passed are written. Assumes nothing.
use Rattle.table_write.specs.Writes.{LeastBefore}
use Rattle.table_write.proofs.put_least.Given as goal

abbrev pub invariant-loop-k : goal.invariant-loop-k
invariant-loop-k l = LeastBefore l.full l.i l.j l.k l.initial.tables l.tables
