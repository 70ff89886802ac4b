-- `fill_input::judge` meets its contract, one case for each check. Assumes nothing.
use Rattle.std.proofs.Common.{rules}
use Rattle.fill_input.specs.Judging.{passed, invalid, long_input, no_room}
use Rattle.fill_input.proofs.judge.Goals as goal

pub returns-then-not-valid : goal.returns-then-not-valid
returns-then-not-valid c = search (rules, invalid)

pub returns-then-n-gt-MAX_INPUT : goal.returns-then-n-gt-MAX_INPUT
returns-then-n-gt-MAX_INPUT c = search (rules, long_input)

pub returns-then-m-lt-CELLS : goal.returns-then-m-lt-CELLS
returns-then-m-lt-CELLS c = search (rules, no_room)

pub returns : goal.returns
returns c = search (rules, passed)
