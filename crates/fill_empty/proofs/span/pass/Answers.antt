-- One rule more. Assumes nothing.
use Rattle.std.proofs.Common.{rules}
use Rattle.fill_empty.proofs.Nothing.{empty-step}
use Rattle.fill_empty.proofs.span.pass.Goals as goal

pub loop-r-preserved : goal.loop-r-preserved
loop-r-preserved c = search (rules, empty-step)
