-- `points_clear::clear_after` meets its contract: one more column is cleared in each turn. Assumes nothing.
use Rattle.std.proofs.Common.{arith}
use Rattle.points_clear.proofs.Turns.{columns-none, columns-next, columns-done}
use Rattle.points_clear.proofs.clear_after.Goals as goal

pub loop-n-init : goal.loop-n-init
loop-n-init c = search columns-none

pub loop-n-preserved : goal.loop-n-preserved
loop-n-preserved c = columns-next _ _ c.loop-n.n _ _ (omega arith) c.loop-n.invariant c.clear_column.ensures

pub returns : goal.returns
returns c = columns-done _ _ c.loop-n.n _ (omega arith) (omega arith) c.loop-n.invariant
