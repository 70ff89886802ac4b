-- `table_cut::suffix::over_ends` meets its contract: the running minimum over the ends, and the minimum with the last end. Assumes nothing.
use Rattle.std.proofs.Common.{rules, arith}
use Rattle.table_cut.proofs.Ends.{ends-start, ends-step, ends_last}
use Rattle.table_cut.proofs.suffix.over_ends.Goals as goal

pub loop-c-init : goal.loop-c-init
loop-c-init c = (omega arith, search (rules, ends-start))

pub loop-c-preserved : goal.loop-c-preserved
loop-c-preserved c = (omega arith, search (rules, ends-step))

pub returns : goal.returns
returns c = search (rules, ends_last)
