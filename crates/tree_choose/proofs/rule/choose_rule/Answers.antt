-- The rule that was passed last is one more that isn't chosen. Assumes nothing.
use Rattle.tree_choose.proofs.Chosen.{passed-more}
use Rattle.tree_choose.proofs.rule.choose_rule.Goals as goal

pub loop-r-preserved : goal.loop-r-preserved
loop-r-preserved c = passed-more c.within_budget.ensures c.if-within_budget.false c.loop-r.invariant
