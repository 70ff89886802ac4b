-- `table_rule::rule::rule_cost` meets its contract: the running minimum, and the minimum after the last place. Assumes nothing.
use Rattle.std.proofs.Common.{rules}
use Rattle.table_rule.proofs.Through.{through-start, through-step, through-end}
use Rattle.table_rule.proofs.rule.rule_cost.Goals as goal

pub loop-q-init : goal.loop-q-init
loop-q-init c = through-start

pub loop-q-preserved : goal.loop-q-preserved
loop-q-preserved c = search (rules, through-step)

pub returns : goal.returns
returns c = search (rules, through-end)
