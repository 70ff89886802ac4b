-- The loop of `names::valid_name`: the name is valid exactly if what is left of it is, after the bytes that were passed. Assumes nothing.
use Rattle.std.proofs.Common.{◌≡◌, drop}
use Rattle.theory_words.specs.Name.{valid_name}
use Rattle.names.proofs.Valid.{rest_of}
use Rattle.names.proofs.valid_name.Given as goal

abbrev pub invariant-loop-b : goal.invariant-loop-b
invariant-loop-b l = valid_name l.fn.name ≡ rest_of l.ended (drop l.b-index l.b-items)
