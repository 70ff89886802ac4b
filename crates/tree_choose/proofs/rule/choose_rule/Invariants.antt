-- The loop of `choose_rule`: each rule that was passed costs more than the budget or is of another nonterminal. Assumes nothing.
use Rattle.tree_choose.specs.Chosen.{RulesPassed}
use Rattle.tree_choose.proofs.rule.choose_rule.Given as goal

abbrev pub invariant-loop-r : goal.invariant-loop-r
invariant-loop-r l = RulesPassed l.p l.rules l.from l.k l.full l.tables l.i l.j l.budget l.r
