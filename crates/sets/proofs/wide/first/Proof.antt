-- `sets::wide::first` meets its contract: the least member is the number of zero bits below it. Assumes nothing.
use mathlib.Core.Path.{refl}
use native.Mathlib.Omega.{arith}
use lib.Count.{trailing_le}
use Rattle.sets.proofs.Pairs.{first-is}
use Rattle.sets.proofs.wide.first.Statement.{statement}
use Rattle.sets.proofs.wide.first.Tie as tie

pub first_spec : {M : Type 1} → statement M
first_spec = tie.close (tie.spec
    (λ c. omega (arith, trailing_le 64 c.args.w)) (λ c. first-is 64 c.args.w _ (omega arith) refl))
