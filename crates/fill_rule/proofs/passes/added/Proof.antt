-- `fill_rule::passes::added` meets its contract. Assumes nothing.
use native.Mathlib.Omega.{arith}
use Rattle.fill_rule.proofs.Rule.{added-in, added-high, added_none}
use Rattle.fill_rule.proofs.passes.added.Statement.{statement}
use Rattle.fill_rule.proofs.passes.added.Tie as tie

pub added_spec : {M : Type 1} → statement M
added_spec = tie.close (tie.spec
    (λ c κs. omega arith) (λ c κs. omega arith) (λ c κs. omega arith) (λ c. search added-in) (λ c. search added-high)
    (λ c. search added_none))
