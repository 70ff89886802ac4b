-- `first::first` meets its contract: if a check fails, the call refuses; else the chart is filled and the first derivation is handed out.
-- Assumes nothing.
use Rattle.std.proofs.Common.{rules}
use Rattle.fill_input.proofs.Judging.{output-ready}
use Rattle.first.proofs.Calls.{first-refused, filled-ready, first-answered}
use Rattle.first.proofs.first.Goals as goal

pub returns-in_err-judge_output : goal.returns-in_err-judge_output
returns-in_err-judge_output c = search (rules, first-refused)

pub fill_fits-p-requires : goal.fill_fits-p-requires
fill_fits-p-requires c = (output-ready c.in_ok-judge_output.ensures).0

pub first_filled-requires : goal.first_filled-requires
first_filled-requires c = filled-ready _ _ _ _ _ _ _ _ c.in_ok-judge_output.ensures c.fill_fits-p.ensures

pub returns : goal.returns
returns c = first-answered _ _ _ _ _ c.in_ok-judge_output.ensures _ _ c.fill_fits-p.ensures.0 _ c.from.ensures _ _ c.first_filled.ensures
