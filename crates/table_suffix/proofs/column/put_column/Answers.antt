-- `table_suffix::column::put_column` meets its contract: the number after the last place, and a turn, which writes the cost of one place.
-- Assumes nothing.
use Rattle.std.proofs.Common.{rules, arith, length-set}
use Rattle.table_suffix.proofs.Starts.{column-start, column-back, column-end}
use Rattle.table_suffix.proofs.column.put_column.Goals as goal

pub loop-q-init : goal.loop-q-init
loop-q-init c = search (rules, column-start)

pub loop-q-preserved : goal.loop-q-preserved
loop-q-preserved c =
    let long = simp length-set at c.loop-q.auto.rows in
    column-back _ _ _ _ _ _ _ _ _ _ _ _ _ _ (omega arith) (omega arith) (omega arith) (omega arith) (omega arith)
    (omega arith) c.contains.ensures c.loop-q.invariant c.suffix_at.ensures

pub returns : goal.returns
returns c = search (rules, column-end)
