-- The loop's invariant: the ends of the columns passed are added. Assumes nothing.
use Rattle.fill_words.proofs.Telling.{Steps}
use Rattle.fill_words.proofs.ends.put_columns.Given as goal

abbrev pub invariant-loop-b : goal.invariant-loop-b
invariant-loop-b l = Steps l.chart 0 l.initial.ends l.initial.reach l.b 0 l.ends l.reach
