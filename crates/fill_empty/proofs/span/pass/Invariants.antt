-- The loop's invariant: what is promised holds for the rules passed. Assumes nothing.
use Rattle.fill_empty.specs.Empty.{EmptyPassed}
use Rattle.fill_empty.proofs.span.pass.Given as goal

abbrev pub invariant-loop-r : goal.invariant-loop-r
invariant-loop-r l = EmptyPassed l.p l.r l.own l.v l.lasts
