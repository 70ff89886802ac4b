-- The loop of `fill_holders::hold_all`: the rules passed are held. Assumes nothing.
use Rattle.fill_holders.specs.Holders.{HeldAll}
use Rattle.fill_holders.proofs.hold_all.Given as goal

abbrev pub invariant-loop-r : goal.invariant-loop-r
invariant-loop-r l = HeldAll l.r l.fn.kinds l.holders
