-- `numbers::unsigned` meets its contract. Assumes nothing.
use native.Mathlib.Omega.{arith}
use Rattle.numbers.proofs.Complement.{flip-fits, flip-casts, flip-below, unsigned_negative, natural_casts, unsigned-natural}
use Rattle.numbers.proofs.unsigned.Statement.{statement}
use Rattle.numbers.proofs.unsigned.Tie as tie

pub unsigned_spec : {M : Type 1} → statement M
unsigned_spec = tie.close (tie.spec
    (λ c. flip-fits _ c.before.ranges.z c.if-z-lt0.true) (λ c. flip-casts _ c.before.ranges.z c.if-z-lt0.true)
    (λ c. omega (arith, flip-below c.before.args.z c.before.ranges.z c.if-z-lt0.true))
    (λ c. natural_casts _ c.before.ranges.z c.if-z-lt0.false) (λ c. unsigned_negative _ c.before.ranges.z c.if-z-lt0.true)
    (λ c. unsigned-natural _ c.before.ranges.z c.if-z-lt0.false))
