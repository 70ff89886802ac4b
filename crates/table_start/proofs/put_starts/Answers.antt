-- `table_start::put_starts` meets its contract: a turn writes the costs of one rule. Assumes nothing.
use Rattle.std.proofs.Common.{rules}
use Rattle.table_start.proofs.Columns.{starts-step}
use Rattle.table_start.proofs.put_starts.Goals as goal

pub loop-r-preserved : goal.loop-r-preserved
loop-r-preserved c = search (rules, starts-step)
