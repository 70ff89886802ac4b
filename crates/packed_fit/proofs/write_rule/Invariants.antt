-- The loop of `packed_fit::write_rule`: the places passed are written. Assumes nothing.
use Rattle.packed_fit.specs.Fit.{FitPut, AtRule}
use Rattle.packed_fit.proofs.write_rule.Given as goal

abbrev pub invariant-loop-q : goal.invariant-loop-q
invariant-loop-q l = FitPut l.p l.w (AtRule l.n l.r l.q) l.initial.t l.t
