-- `table_all::ends::put_end` meets its contract: a turn does the span from one start. Assumes nothing.
use Rattle.std.proofs.Common.{rules}
use Rattle.table_all.proofs.Ending.{end_back}
use Rattle.table_all.proofs.ends.put_end.Goals as goal

pub loop-i-preserved : goal.loop-i-preserved
loop-i-preserved c = search (rules, end_back)
