-- `checker::check` meets its contract: a check that fails refuses; otherwise the chart is filled and the offered row is checked. Assumes nothing.
use Rattle.std.proofs.Common.{rules}
use Rattle.checker.proofs.Answers.{check-refused, check-answered}
use Rattle.checker.proofs.check.Goals as goal

pub returns-in_err-judge : goal.returns-in_err-judge
returns-in_err-judge c = search (rules, check-refused)

pub returns : goal.returns
returns c = check-answered _ _ _ _ c.in_ok-judge.ensures _ _ _ c.from.ensures c.fill-p.ensures _ _ c.check_offered.ensures
