-- `sets::lowest` meets its contract: the least member is the number of zero bits below it. Assumes nothing.
use mathlib.Core.Path.{refl}
use native.Mathlib.Omega.{arith}
use lib.Count.{trailing_le}
use Rattle.sets.proofs.Pairs.{lowest-is}
use Rattle.sets.proofs.lowest.Statement.{statement}
use Rattle.sets.proofs.lowest.Tie as tie

pub lowest_spec : {M : Type 1} → statement M
lowest_spec = tie.close (tie.spec
    (λ c. omega (arith, trailing_le 32 c.args.w)) (λ c. lowest-is 32 c.args.w _ (omega arith) c.requires refl))
