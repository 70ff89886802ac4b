-- The words of the rules passed are there, and zeros come after them. Assumes nothing.
use Rattle.std.proofs.Common.{◌≡◌, ◌≤◌, ◌++◌, take, drop, replicate}
use Rattle.sizes.specs.Sizes.{max_rules}
use Rattle.theory_tidying.specs.Tidying.{tidied}
use Rattle.learn.specs.Reading.{name_words}
use Rattle.learn.proofs.reading.words_of.Given as goal

abbrev pub invariant-loop-i : goal.invariant-loop-i
invariant-loop-i l = (l.g.count ≤ max_rules) × (l.words ≡ take l.i (name_words (tidied l.g)) ++ drop l.i (replicate max_rules 0))
