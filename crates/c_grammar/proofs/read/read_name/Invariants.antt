-- The bytes passed are read. Assumes nothing.
use Rattle.theory_words.specs.Name.{name_size}
use Rattle.c_grammar.specs.Flat.{row_byte}
use Rattle.c_grammar.proofs.Records.{Read}
use Rattle.c_grammar.proofs.read.read_name.Given as goal

abbrev pub invariant-loop-k : goal.invariant-loop-k
invariant-loop-k l = Read (row_byte l.f) 1 l.at name_size l.k l.byte-items
