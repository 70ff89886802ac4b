-- The loop's invariant: the sets of the starts passed are right. Assumes nothing.
use Rattle.std.proofs.Common.{ℕ, ◌<◌, get_or}
use Rattle.fill_reach.specs.Reach.{ReachFrom}
use Rattle.fill_reach.proofs.reaches.Given as goal

abbrev pub invariant-loop-i : goal.invariant-loop-i
invariant-loop-i l = (j : ℕ) → j < l.i → ReachFrom l.chart j l.n (get_or l.ends-items j 0)
