-- `checker::same_build` meets its contract: a check that fails refuses; otherwise the chart is filled and the offered rows are compared. Assumes nothing.
use Rattle.std.proofs.Common.{rules}
use Rattle.checker.proofs.Answers.{build-refused, build-answered}
use Rattle.checker.proofs.same_build.Goals as goal

pub returns-in_err-judge : goal.returns-in_err-judge
returns-in_err-judge c = search (rules, build-refused)

pub returns : goal.returns
returns c = build-answered _ _ _ _ c.in_ok-judge.ensures _ _ _ c.from.ensures c.fill-p.ensures _ _ _ c.compare_offered.ensures
