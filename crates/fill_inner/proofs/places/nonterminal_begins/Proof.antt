-- `fill_inner::places::nonterminal_begins` meets its contract. Assumes nothing.
use native.Mathlib.Omega.{arith}
use Rattle.fill_inner.proofs.Place.{node-meets, node-last, node-high}
use Rattle.fill_inner.proofs.places.nonterminal_begins.Statement.{statement}
use Rattle.fill_inner.proofs.places.nonterminal_begins.Tie as tie

pub nonterminal_begins_spec : {M : Type 1} → statement M
nonterminal_begins_spec = tie.close (tie.spec
    (λ c κs. omega arith) (λ c. omega arith) (λ c κs. omega arith)
    -- the ends of the nonterminal, the starts of the next place, and whether they meet
    (λ c. omega arith) (λ c. omega arith) (λ c. omega arith) (λ c. omega arith)
    (λ c. omega arith) (λ c. omega arith) (λ c. omega arith) (λ c. omega arith) (λ c. omega arith) (λ c κs. omega arith)
    -- what is returned
    (λ c. λ n fits last. search node-meets) (λ c. λ n fits last. search node-last)
    (λ c. λ n fits last. search node-high))
