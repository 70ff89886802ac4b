-- The loop's invariant: the places passed are right, and no others are in the set. Assumes nothing.
use Rattle.fill_inner.proofs.Rule.{BeginsTo}
use Rattle.fill_inner.proofs.places.begins.Given as goal

abbrev pub invariant-loop-q : goal.invariant-loop-q
invariant-loop-q l = BeginsTo l.p l.r l.window.i l.window.n l.window.fits l.ends l.starts l.window.last l.q l.v
