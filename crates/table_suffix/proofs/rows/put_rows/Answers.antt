-- `table_suffix::rows::put_rows` meets its contract: a turn writes the costs from one start. Assumes nothing.
use Rattle.std.proofs.Common.{rules, arith}
use Rattle.table_suffix.proofs.AllStarts.{rows_back}
use Rattle.table_suffix.proofs.rows.put_rows.Goals as goal

pub loop-a-preserved : goal.loop-a-preserved
loop-a-preserved c = (omega arith, search (rules, rows_back))
