-- The loop's invariant of `words::row::names_of`: the names of the rules passed are written. Assumes nothing.
use Rattle.words.proofs.NameRow.{NamesTo}
use Rattle.words.proofs.row.names_of.Given as goal

abbrev pub invariant-loop-rule : goal.invariant-loop-rule
invariant-loop-rule l = NamesTo l.fn.g.rules l.names l.at l.rule-index
