-- `table_rule::alone::total` meets its contract: the running sum, and the sum after the last place. Assumes nothing.
use Rattle.std.proofs.Common.{rules, arith}
use Rattle.table_rule.proofs.Sums.{summed-start, summed-step, summed-end}
use Rattle.table_rule.proofs.alone.total.Goals as goal

pub loop-q-init : goal.loop-q-init
loop-q-init c = (omega arith, summed-start)

pub loop-q-preserved : goal.loop-q-preserved
loop-q-preserved c = (omega arith, search (rules, summed-step))

pub returns : goal.returns
returns c = search (rules, summed-end)
