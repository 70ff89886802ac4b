-- The loop of loading: reading on from here gives what loading gives, the grammar read so far is valid, and the words are those of its
-- names. The measure is what is left of the bytes. Assumes nothing.
use Rattle.std.proofs.Common.{◌-◌, length}
use Rattle.load.proofs.Progress.{Progress}
use Rattle.load.proofs.load.Given as goal

abbrev pub invariant-loop-k : goal.invariant-loop-k
invariant-loop-k l = Progress l.bytes l.at l.words l.g

abbrev pub decreases-loop-k : goal.decreases-loop-k
decreases-loop-k l = length l.bytes - l.at
