-- `words::words` meets its contract: a check that fails refuses; otherwise the chart is filled and the text is written. Assumes nothing.
use Rattle.std.proofs.Common.{rules}
use Rattle.words.proofs.Calls.{words-refused, words-answered}
use Rattle.words.proofs.words.Goals as goal

pub returns-in_err-judge : goal.returns-in_err-judge
returns-in_err-judge c = search (rules, words-refused)

pub returns : goal.returns
returns c =
    words-answered _ _ _ _ _ _ c.in_ok-judge.ensures _ _ _ c.from.ensures c.fill-p.ensures _ c.names_of-names.ensures _ _
    c.write_offered.ensures
