-- No rule, and one rule more. Assumes nothing.
use Rattle.std.proofs.Common.{rules}
use Rattle.fill_closure.proofs.States.{state-start, first_step}
use Rattle.fill_closure.proofs.passes.first.Goals as goal

pub loop-r-init : goal.loop-r-init
loop-r-init c = search (rules, state-start)

pub loop-r-preserved : goal.loop-r-preserved
loop-r-preserved c = search (rules, first_step)
