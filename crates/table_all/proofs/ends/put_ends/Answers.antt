-- `table_all::ends::put_ends` meets its contract: before the first end, a turn, which does the spans of one end, and after the last end.
-- Assumes nothing.
use Rattle.std.proofs.Common.{rules, arith}
use Rattle.table_all.proofs.Ending.{ends-start, ends-step, ends-end}
use Rattle.table_all.proofs.ends.put_ends.Goals as goal

pub loop-j-init : goal.loop-j-init
loop-j-init c = ends-start _ _ _ _ _ _ _ _ (search rules) (search rules)

pub loop-j-preserved : goal.loop-j-preserved
loop-j-preserved c = ends-step _ _ _ _ _ _ (omega arith) (omega arith) c.loop-j.invariant c.put_end.ensures

pub returns : goal.returns
returns c = ends-end _ _ _ _ _ _ (omega arith) (omega arith) (omega arith) c.loop-j.invariant
