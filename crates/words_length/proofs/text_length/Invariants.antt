-- The loop's invariant of `words_length::text_length`: the sum so far and what the nodes left add make the whole. Assumes nothing.
use Rattle.words_length.proofs.Sums.{SumTo}
use Rattle.words_length.proofs.text_length.Given as goal

abbrev pub invariant-loop-i : goal.invariant-loop-i
invariant-loop-i l = SumTo l.names l.p l.e l.n l.i l.m
