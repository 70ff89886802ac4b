-- `fill_inner::rules::begins_near` meets its contract. Assumes nothing.
use native.Mathlib.Omega.{arith}
use Rattle.fill_inner.proofs.Rule.{near-looked, near-passed}
use Rattle.fill_inner.proofs.rules.begins_near.Statement.{statement}
use Rattle.fill_inner.proofs.rules.begins_near.Tie as tie

pub begins_near_spec : {M : Type 1} → statement M
begins_near_spec = tie.close (tie.spec (λ c κs. omega arith) (λ c κs. omega arith) (λ c. search near-looked) (λ c. search near-passed))
