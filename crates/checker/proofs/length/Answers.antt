-- `checker::length` meets its contract: a check that fails refuses; otherwise the chart is filled and the offered row is measured. Assumes nothing.
use Rattle.std.proofs.Common.{rules}
use Rattle.checker.proofs.Answers.{length-refused, length-answered}
use Rattle.checker.proofs.length.Goals as goal

pub returns-in_err-judge : goal.returns-in_err-judge
returns-in_err-judge c = search (rules, length-refused)

pub returns : goal.returns
returns c = length-answered _ _ _ _ c.in_ok-judge.ensures _ _ _ c.from.ensures c.fill-p.ensures _ _ _ c.lengths_of-lengths.ensures c.measure_offered.ensures
