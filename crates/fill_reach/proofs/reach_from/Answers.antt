-- One end more: its cell has a nonterminal, or none. Assumes nothing.
use Rattle.std.proofs.Common.{rules}
use Rattle.fill_reach.proofs.Reaching.{from-put, from-none}
use Rattle.fill_reach.proofs.reach_from.Goals as goal
use Rattle.fill_reach.proofs.reach_from.Goals.{then-chart-i-ne0, else-chart-i-ne0}

pub loop-c-preserved : goal.loop-c-preserved
loop-c-preserved c = elim c.if-chart-i-ne0.branch [
  | then-chart-i-ne0 w ↦ search (rules, from-put)
  | else-chart-i-ne0 w ↦ search (rules, from-none)
]
