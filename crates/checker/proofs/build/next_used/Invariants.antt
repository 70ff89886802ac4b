-- The loop's invariant of `checker::build::next_used`: the nodes passed have no rule that is used. Assumes nothing.
use Rattle.std.proofs.Common.{◌≡◌}
use Rattle.checker.specs.Build.{used_from}
use Rattle.checker.proofs.build.next_used.Given as goal

abbrev pub invariant-loop-r : goal.invariant-loop-r
invariant-loop-r l = used_from l.e l.i ≡ used_from l.e l.r
