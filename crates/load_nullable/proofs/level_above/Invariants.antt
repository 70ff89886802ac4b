-- The loop of `load_nullable::level_above`: s has the left sides that the rules passed add. Assumes nothing.
use Rattle.std.proofs.Common.{◌≡◌, take}
use Rattle.load_nullable.proofs.Depth.{heads_by}
use Rattle.load_nullable.proofs.level_above.Given as goal

abbrev pub invariant-loop-rule : goal.invariant-loop-rule
invariant-loop-rule l = l.s ≡ heads_by l.fn.level (take l.rule-index l.rule-items) 0
