-- `points::returning` meets its contract. Assumes nothing.
use native.Mathlib.Omega.{arith}
use Rattle.recognizer.proofs.Declared.{points-long}
use Rattle.points.proofs.Calls.{return-right}
use Rattle.points.proofs.returning.Statement.{statement}
use Rattle.points.proofs.returning.Tie as tie

returns : tie.Need-returns
returns c =
    return-right _ _ _ _ c.requires.0 c.requires.1 c.requires.2 _ _ _ _ (points-long c.args.h _ c.well_formed.0)
    c.requires.3 c.back.ensures c.clear_after.ensures c.says.ensures

pub returning_spec : {M : Type 1} → statement M
returning_spec = tie.close (tie.spec (λ c κs. omega arith) (λ c κs. omega arith) (λ c κs. omega arith) (λ c. omega arith) returns)
