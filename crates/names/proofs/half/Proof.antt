-- `names::half` meets its contract. Assumes nothing.
use native.Mathlib.Omega.{arith}
use Rattle.names.specs.Word.{word_of}
use Rattle.names.proofs.half.Statement.{statement}
use Rattle.names.proofs.half.Tie as tie

returns : tie.Need-returns
unfolding word_of
returns c = omega arith

pub half_spec : {M : Type 1} → statement M
half_spec = tie.close (tie.spec
    (λ c. omega arith) (λ c. omega arith) (λ c. omega arith) (λ c. omega arith) (λ c. omega arith) (λ c. omega arith) returns)
