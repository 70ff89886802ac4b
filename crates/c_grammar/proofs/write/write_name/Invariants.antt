-- The bytes passed are written. Assumes nothing.
use Rattle.theory_words.specs.Name.{name_size}
use Rattle.c_grammar.proofs.Records.{flat_byte}
use Rattle.c_grammar.proofs.Written.{Written}
use Rattle.c_grammar.proofs.write.write_name.Given as goal

abbrev pub invariant-loop-k : goal.invariant-loop-k
invariant-loop-k l = Written flat_byte 1 l.at l.byte-items name_size l.fn.f l.k l.f
