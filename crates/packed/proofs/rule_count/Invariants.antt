-- The loop of `packed::rule_count`: no used rule has a number from r on. Assumes nothing.
use Rattle.packed.specs.Packed.{Used}
use Rattle.packed.proofs.rule_count.Given as goal

abbrev pub invariant-loop-r : goal.invariant-loop-r
invariant-loop-r l = Used l.p l.r
