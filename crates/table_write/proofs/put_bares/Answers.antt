-- `table_write::put_bares` meets its contract: a turn writes the cost of one rule. Assumes nothing.
use Rattle.std.proofs.Common.{rules}
use Rattle.table_write.proofs.Written.{bares-step}
use Rattle.table_write.proofs.put_bares.Goals as goal

pub loop-r-preserved : goal.loop-r-preserved
loop-r-preserved c = search (rules, bares-step)
