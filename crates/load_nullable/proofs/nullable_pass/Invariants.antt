-- The loop of `load_nullable::nullable_pass`: s is what the rules passed make of the set. Assumes nothing.
use Rattle.std.proofs.Common.{◌≡◌, take}
use Rattle.load_nullable.specs.Nullable.{pass}
use Rattle.load_nullable.proofs.nullable_pass.Given as goal

abbrev pub invariant-loop-rule : goal.invariant-loop-rule
invariant-loop-rule l = l.s ≡ pass (take l.rule-index l.rule-items) l.fn.known
