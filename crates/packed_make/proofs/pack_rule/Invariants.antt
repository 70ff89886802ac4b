-- The loop of `packed_make::pack_rule`: row r has the places passed, and the other rows are as found. Assumes nothing.
use Rattle.packed_make.proofs.Row.{Row}
use Rattle.packed_make.proofs.pack_rule.Given as goal

abbrev pub invariant-loop-q : goal.invariant-loop-q
invariant-loop-q l = Row l.fn.rule l.fn.r l.q l.initial.p l.p
