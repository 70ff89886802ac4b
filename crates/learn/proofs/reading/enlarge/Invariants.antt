-- The loop of learning: reading on from here gives what the bytes make of the old grammar, the grammar read so far is valid, and the words
-- are those of its names. The measure is what is left of the bytes. Assumes nothing.
use Rattle.std.proofs.Common.{◌-◌, length}
use Rattle.learn.proofs.Progress.{Progress}
use Rattle.learn.proofs.reading.enlarge.Given as goal

abbrev pub invariant-loop-k : goal.invariant-loop-k
invariant-loop-k l = Progress l.old l.bytes l.at l.words l.g

abbrev pub decreases-loop-k : goal.decreases-loop-k
decreases-loop-k l = length l.bytes - l.at
