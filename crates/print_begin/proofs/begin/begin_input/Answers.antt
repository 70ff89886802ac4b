-- Of the checks only 9 can fail, and otherwise the chart is filled. Assumes nothing.
use Rattle.std.proofs.Common.{rules, arith}
use Rattle.grammar.proofs.Declared.{rules-long}
use Rattle.fill_input.proofs.Judging.{judged-ready}
use Rattle.print_begin.proofs.Judged.{input-refused, judged-filled, input-begun}
use Rattle.print_begin.proofs.begin.begin_input.Goals as goal

pub returns-in-Err : goal.returns-in-Err
returns-in-Err c = search (rules, input-refused)

pub fill_fits-requires : goal.fill_fits-requires
fill_fits-requires c = judged-ready c.in-Ok.ensures

pub begin_filled-requires : goal.begin_filled-requires
begin_filled-requires c =
    let filling = c.fill_fits.ensures in
    let ready = judged-filled _ _ _ _ _ c.in-Ok.ensures _ _ filling.0 in
    (ready.0, ready.1, omega arith, omega arith, filling.1, ready.2)

pub returns-in-Ok : goal.returns-in-Ok
returns-in-Ok c =
    input-begun _ _ _ _ _ c.in-Ok.ensures _ _ c.fill_fits.ensures.0 _
    c.from.ensures _ c.lengths_of.ensures (rules-long c.args.g _ c.well_formed.0) _ _ _ _ _
    c.begin_filled.ensures
