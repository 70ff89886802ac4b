-- `c_grammar::write::write_place` meets its contract: two numbers more, and the length as before. Assumes nothing.
use native.Mathlib.Omega.{arith}
use lib.ListN.{length-set}
use Rattle.c_grammar.proofs.Written.{place-done}
use Rattle.c_grammar.proofs.write.write_place.Statement.{statement}
use Rattle.c_grammar.proofs.write.write_place.Tie as tie

pub write_place_spec : {M : Type 1} → statement M
write_place_spec = tie.close (tie.spec
    -- the store of the tag
    (λ c κs. omega arith) (λ c. omega arith) (λ c. omega arith) (λ c. omega arith)
    -- the two calls of the value, and their sum
    (λ c κs. omega arith) (λ c. omega arith) (λ c κs. omega arith) (λ c. omega arith) (λ c. omega arith) (λ c. omega arith)
    -- the store of the value
    (λ c. omega arith) (λ c. omega arith) (λ c. omega arith)
    (λ c. (search place-done, simp length-set c.before.before.before.requires.1)))
