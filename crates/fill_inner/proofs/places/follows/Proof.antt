-- `fill_inner::places::follows` meets its contract. Assumes nothing.
use native.Mathlib.Omega.{arith}
use Rattle.fill_inner.proofs.Place.{follows-before, follows-none, follows-end}
use Rattle.fill_inner.proofs.places.follows.Statement.{statement}
use Rattle.fill_inner.proofs.places.follows.Tie as tie

pub follows_spec : {M : Type 1} → statement M
follows_spec = tie.close (tie.spec
    (λ c κs. omega arith) (λ c. omega arith) (λ c. omega arith) (λ c. omega arith) (λ c. omega arith) (λ c κs. omega arith)
    (λ c. λ fit i l. search follows-before) (λ c. λ fit i l. search follows-none) (λ c κs. omega arith)
    (λ c. λ fit i l. search follows-end))
