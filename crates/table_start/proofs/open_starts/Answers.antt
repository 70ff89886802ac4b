-- `table_start::open_starts` meets its contract: a turn writes the costs of one rule, and after the last turn all are written.
-- Assumes nothing.
use Rattle.std.proofs.Common.{rules}
use Rattle.table_start.proofs.Columns.{opened-step, opened-end}
use Rattle.table_start.proofs.open_starts.Goals as goal

pub loop-r-preserved : goal.loop-r-preserved
loop-r-preserved c = search (rules, opened-step)

pub returns : goal.returns
returns c = search (rules, opened-end)
