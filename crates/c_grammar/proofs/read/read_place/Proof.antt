-- `c_grammar::read::read_place` meets its contract: the place of the symbol that was read. Assumes nothing.
use native.Mathlib.Omega.{arith}
use Rattle.c_grammar.proofs.Parts.{read-place-of}
use Rattle.c_grammar.proofs.read.read_place.Statement.{statement}
use Rattle.c_grammar.proofs.read.read_place.Tie as tie

pub read_place_spec : {M : Type 1} → statement M
read_place_spec = tie.close (tie.spec
    (λ c. omega arith) (λ c. omega arith) (λ c. omega arith) (λ c. omega arith) (λ c. omega arith) (λ c κs. omega arith)
    (λ c. search read-place-of))
