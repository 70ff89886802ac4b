-- `fill_input::judge_output` meets its contract: a check before 11 that fails refuses; else the output is judged. Assumes nothing.
use Rattle.std.proofs.Common.{rules}
use Rattle.fill_input.specs.Judging.{all_passed, before, no_space}
use Rattle.fill_input.proofs.judge_output.Goals as goal

pub returns-in_err-judge : goal.returns-in_err-judge
returns-in_err-judge c = search (rules, before)

pub returns-then-k-lt-OUTPUT : goal.returns-then-k-lt-OUTPUT
returns-then-k-lt-OUTPUT c = no_space c.in_ok-judge.ensures c.if-k-lt-OUTPUT.true

pub returns : goal.returns
returns c = all_passed c.in_ok-judge.ensures c.if-k-lt-OUTPUT.false
