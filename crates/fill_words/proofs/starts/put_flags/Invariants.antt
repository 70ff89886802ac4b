-- The loop's invariant: the flags of the rules passed are added. Assumes nothing.
use Rattle.fill_words.proofs.Starting.{FlagsTo}
use Rattle.fill_words.proofs.starts.put_flags.Given as goal

abbrev pub invariant-loop-r : goal.invariant-loop-r
invariant-loop-r l = FlagsTo l.p l.rules l.i l.flags l.initial.starts l.initial.live l.r l.starts l.live
