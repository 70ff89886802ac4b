-- `words_length::node_length` meets its contract. Assumes nothing.
use native.Mathlib.Omega.{arith}
use Rattle.words_length.proofs.Sums.{size-unused, size_none, size-some}
use Rattle.words_length.proofs.node_length.Statement.{statement}
use Rattle.words_length.proofs.node_length.Tie as tie

pub node_length_spec : {M : Type 1} → statement M
node_length_spec = tie.close (tie.spec
    (λ c. (search size-unused, omega arith))
    -- the calls of `count` and `rule_length`
    (λ c κs. omega arith) (λ c κs. omega arith)
    -- no place, and some
    (λ c. omega arith) (λ c. omega arith) (λ c. omega arith)
    (λ c. (search size_none, omega arith)) (λ c. (search size-some, omega arith)))
