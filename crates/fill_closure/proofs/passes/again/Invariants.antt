-- The loop's invariant: what is promised holds for the rules passed. Assumes nothing.
use Rattle.fill_closure.specs.Looks.{PassMade}
use Rattle.fill_closure.proofs.passes.again.Given as goal

abbrev pub invariant-loop-r : goal.invariant-loop-r
invariant-loop-r l = PassMade l.p l.rules l.start l.insides l.lasts l.kinds l.r l.own l.v l.flags l.made
