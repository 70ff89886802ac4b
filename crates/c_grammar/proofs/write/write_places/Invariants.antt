-- The places passed are written. Assumes nothing.
use Rattle.sizes.specs.Sizes.{max_places}
use Rattle.c_grammar.specs.Flat.{flat_place}
use Rattle.c_grammar.proofs.Written.{Written}
use Rattle.c_grammar.proofs.write.write_places.Given as goal

abbrev pub invariant-loop-q : goal.invariant-loop-q
invariant-loop-q l = Written flat_place 2 l.at l.place-items max_places l.fn.f l.q l.f
