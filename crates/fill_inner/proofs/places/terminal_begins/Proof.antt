-- `fill_inner::places::terminal_begins` meets its contract. Assumes nothing.
use native.Mathlib.Omega.{arith}
use Rattle.fill_inner.proofs.Place.{leaf-follows, leaf-misses}
use Rattle.fill_inner.proofs.places.terminal_begins.Statement.{statement}
use Rattle.fill_inner.proofs.places.terminal_begins.Tie as tie

pub terminal_begins_spec : {M : Type 1} → statement M
terminal_begins_spec = tie.close (tie.spec
    (λ c κs. omega arith) (λ c. omega arith) (λ c. omega arith) (λ c κs. omega arith) (λ c. λ ends. search leaf-follows)
    (λ c. λ ends. search leaf-misses))
