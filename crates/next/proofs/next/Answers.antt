-- `next::next` meets its contract: if a check fails, the call refuses; else the chart is filled and the next derivation is handed out.
-- Assumes nothing.
use Rattle.std.proofs.Common.{rules}
use Rattle.fill_input.proofs.Judging.{output-ready}
use Rattle.first.proofs.Calls.{filled-ready}
use Rattle.next.proofs.Calls.{next-refused, next-answered}
use Rattle.next.proofs.next.Goals as goal

pub returns-in_err-judge_output : goal.returns-in_err-judge_output
returns-in_err-judge_output c = search (rules, next-refused)

pub fill_fits-p-requires : goal.fill_fits-p-requires
fill_fits-p-requires c = (output-ready c.in_ok-judge_output.ensures).0

pub next_filled-requires : goal.next_filled-requires
next_filled-requires c = filled-ready _ _ _ _ _ _ _ _ c.in_ok-judge_output.ensures c.fill_fits-p.ensures

pub returns : goal.returns
returns c = next-answered _ _ _ _ _ _ c.in_ok-judge_output.ensures _ _ c.fill_fits-p.ensures.0 _ c.from.ensures _ _ c.next_filled.ensures
