-- `fill_rule::passes::place_cuts` meets its contract. Assumes nothing.
use native.Mathlib.Omega.{arith}
use Rattle.fill_rule.proofs.Rule.{placed-inner, placed-empty, placed-whole, placed-terminal}
use Rattle.fill_rule.proofs.passes.place_cuts.Statement.{statement}
use Rattle.fill_rule.proofs.passes.place_cuts.Tie as tie

pub place_cuts_spec : {M : Type 1} → statement M
place_cuts_spec = tie.close (tie.spec
    -- an inner cut
    (λ c κs. omega arith) (λ c. search placed-inner)
    -- a nonterminal, over the empty span or the whole
    (λ c κs. omega arith) (λ c κs. omega arith) (λ c. omega arith) (λ c κs. omega arith) (λ c. search placed-empty)
    (λ c. omega arith) (λ c κs. omega arith) (λ c. search placed-whole)
    -- a terminal
    (λ c. search placed-terminal))
