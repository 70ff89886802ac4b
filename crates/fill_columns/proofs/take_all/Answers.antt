-- No position, and one position more. Assumes nothing.
use Rattle.std.proofs.Common.{rules}
use Rattle.fill_columns.proofs.Filling.{fill-zero, fill-go}
use Rattle.fill_columns.proofs.take_all.Goals as goal

pub loop-m-init : goal.loop-m-init
loop-m-init c = fill-zero _ _ _ _

pub loop-m-preserved : goal.loop-m-preserved
loop-m-preserved c = search (rules, fill-go)
