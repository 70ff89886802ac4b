-- The loop of `packed_fit::write_place`: the positions passed are written. Assumes nothing.
use Rattle.packed_fit.specs.Fit.{FitPut, AtPlace}
use Rattle.packed_fit.proofs.write_place.Given as goal

abbrev pub invariant-loop-i : goal.invariant-loop-i
invariant-loop-i l = FitPut l.p l.w (AtPlace l.i l.r l.q) l.initial.t l.t
