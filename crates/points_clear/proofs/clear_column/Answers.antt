-- `points_clear::clear_column` meets its contract: one more cell is cleared in each turn. Assumes nothing.
use Rattle.std.proofs.Common.{◌+◌, arith}
use Rattle.points_clear.proofs.Turns.{cells-none, cells-next, cells-done}
use Rattle.points_clear.proofs.clear_column.Goals as goal

pub loop-i-init : goal.loop-i-init
loop-i-init c = search cells-none

pub loop-i-preserved : goal.loop-i-preserved
loop-i-preserved c = search cells-next

pub returns-2 : goal.returns-2
returns-2 c = cells-done _ _ (c.loop-i.i + 1) _ (omega arith) (omega arith) (search cells-next)
