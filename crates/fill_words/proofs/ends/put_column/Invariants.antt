-- The loop's invariant: the ends of the starts passed are added. Assumes nothing.
use Rattle.fill_words.proofs.Telling.{Steps}
use Rattle.fill_words.proofs.ends.put_column.Given as goal

abbrev pub invariant-loop-i : goal.invariant-loop-i
invariant-loop-i l = Steps l.chart l.b l.initial.ends l.initial.reach l.b l.i l.ends l.reach
