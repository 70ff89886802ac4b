-- `count::count` meets its contract: if a check fails, the call refuses; else the chart is filled and the derivations are counted.
-- Assumes nothing.
use Rattle.std.proofs.Common.{rules}
use Rattle.count.proofs.Calls.{count-refused, filled-ready, count-answered}
use Rattle.count.proofs.count.Goals as goal

pub returns-in_err-judge : goal.returns-in_err-judge
returns-in_err-judge c = search (rules, count-refused)

pub count_filled-requires : goal.count_filled-requires
count_filled-requires c = filled-ready _ _ _ _ c.in_ok-judge.ensures _ _ c.fill_fits-p.ensures.0 c.fill_fits-p.ensures.1

pub returns : goal.returns
returns c = count-answered _ _ _ _ c.in_ok-judge.ensures _ _ c.fill_fits-p.ensures.0 _ c.from.ensures _ c.count_filled.ensures
