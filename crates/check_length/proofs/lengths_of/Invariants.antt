-- The loop's invariant of `check_length::lengths_of`: the lengths of the rules passed are written. Assumes nothing.
use Rattle.std.proofs.Common.{◌≡◌, length, take, map}
use Rattle.sizes.specs.Sizes.{max_rules}
use Rattle.check_length.specs.Measure.{length_of_rule}
use Rattle.check_length.proofs.lengths_of.Given as goal

abbrev pub invariant-loop-r : goal.invariant-loop-r
invariant-loop-r l = (length l.l ≡ max_rules) × (take l.r l.l ≡ take l.r (map length_of_rule l.fn.g.rules))
