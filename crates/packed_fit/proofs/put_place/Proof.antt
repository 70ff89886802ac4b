-- `packed_fit::put_place` meets its contract. Assumes nothing.
use borrow.Author.Rules.{rules}
use native.Mathlib.Omega.{arith}
use Rattle.packed_fit.proofs.Tables.{place-node}
use Rattle.packed_fit.proofs.put_place.Statement.{statement}
use Rattle.packed_fit.proofs.put_place.Tie as tie

pub put_place_spec : {M : Type 1} → statement M
put_place_spec = tie.close (tie.spec (λ c κs. omega arith) (λ c. search place-node) (λ c κs. omega arith) (λ c. search rules))
