-- The loop's invariant: the words of the rules passed are right. Assumes nothing.
use Rattle.fill_inner.proofs.Rule.{AllTo}
use Rattle.fill_inner.proofs.rules.begin_all.Given as goal

abbrev pub invariant-loop-r : goal.invariant-loop-r
invariant-loop-r l = AllTo l.p l.rules l.i l.n l.fits l.ends l.starts l.reach l.live l.lasts l.r l.insides
