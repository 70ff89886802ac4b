-- One rule more, and all. Assumes nothing.
use Rattle.std.proofs.Common.{rules}
use Rattle.fill_closure.proofs.States.{again-step, again-done}
use Rattle.fill_closure.proofs.passes.again.Goals as goal

pub loop-r-preserved : goal.loop-r-preserved
loop-r-preserved c = search (rules, again-step)

pub returns : goal.returns
returns c = search (rules, again-done)
