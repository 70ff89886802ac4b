-- `sets::wide::meets` meets its contract: the common part is not 0. Assumes nothing.
use native.Mathlib.Omega.{arith}
use Rattle.sets.proofs.Pairs.{meeting}
use Rattle.sets.proofs.wide.meets.Statement.{statement}
use Rattle.sets.proofs.wide.meets.Tie as tie
use mathlib.Core.Path.{refl}

pub meets_spec : {M : Type 1} → statement M
meets_spec = tie.close (tie.spec (λ c. meeting 64 c.args.v c.args.w _ (omega arith) (omega arith) refl))
