-- `sets::wide::has` meets its contract: the shifted and masked word is bit k. Assumes nothing.
use native.Mathlib.Omega.{arith}
use Rattle.sets.proofs.Machine.{mask-is-has}
use Rattle.sets.proofs.wide.has.Statement.{statement}
use Rattle.sets.proofs.wide.has.Tie as tie

pub has_spec : {M : Type 1} → statement M
has_spec = tie.close (tie.spec (λ c. omega arith) (λ c. mask-is-has c.args.k c.args.w))
