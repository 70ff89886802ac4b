-- The places passed are read. Assumes nothing.
use Rattle.sizes.specs.Sizes.{max_places}
use Rattle.c_grammar.specs.Flat.{row_place}
use Rattle.c_grammar.proofs.Records.{Read}
use Rattle.c_grammar.proofs.read.read_places.Given as goal

abbrev pub invariant-loop-q : goal.invariant-loop-q
invariant-loop-q l = Read (row_place l.f) 2 l.at max_places l.q l.place-items
