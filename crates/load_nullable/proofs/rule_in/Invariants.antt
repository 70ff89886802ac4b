-- The loop of `load_nullable::rule_in`: the places passed hold members of the set. Assumes nothing.
use Rattle.std.proofs.Common.{◌≡◌, true, take}
use Rattle.grammar.specs.Valid.{all}
use Rattle.load_nullable.specs.Nullable.{place_known}
use Rattle.load_nullable.proofs.rule_in.Given as goal

abbrev pub invariant-loop-p : goal.invariant-loop-p
invariant-loop-p l = all (place_known l.fn.known) (take l.p-index l.p-items) ≡ true
