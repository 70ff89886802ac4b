-- `numbers::signed` meets its contract. Assumes nothing.
use native.Mathlib.Omega.{arith}
use Rattle.numbers.proofs.Complement.{signed-small, negative_fits, signed-large}
use Rattle.numbers.proofs.signed.Statement.{statement}
use Rattle.numbers.proofs.signed.Tie as tie

pub signed_spec : {M : Type 1} → statement M
signed_spec = tie.close (tie.spec
    (λ c. omega arith) (λ c. omega arith) (λ c. omega arith) (λ c. search negative_fits) (λ c. search signed-small)
    (λ c. signed-large c.before.args.n (omega arith) (omega arith)))
