-- `table_write::put_least` meets its contract: a turn writes one number, and after the last turn all are written. Assumes nothing.
use Rattle.std.proofs.Common.{rules}
use Rattle.table_write.proofs.Written.{least_step, least-end}
use Rattle.table_write.proofs.put_least.Goals as goal

pub loop-k-preserved : goal.loop-k-preserved
loop-k-preserved c = search (rules, least_step)

pub returns : goal.returns
returns c = search (rules, least-end)
