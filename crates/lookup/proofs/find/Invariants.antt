-- The loop of the lookup: the rest of the book loads, and the lookup goes on from here. The measure is what is left of the bytes.
-- Assumes nothing.
use Rattle.std.proofs.Common.{length, ◌-◌}
use Rattle.lookup.proofs.Walk.{Walk}
use Rattle.lookup.proofs.find.Given as goal

abbrev pub invariant-loop-at : goal.invariant-loop-at
invariant-loop-at l = Walk l.bytes l.rule l.at l.rules

abbrev pub decreases-loop-at : goal.decreases-loop-at
decreases-loop-at l = length l.bytes - l.at
