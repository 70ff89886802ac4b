-- `fill_closure::passes::closure` meets its contract. The loop's invariant: all rules were looked at.
-- The measure is what is left of the numbers of 32 bits. Assumes nothing.
use borrow.Author.Rules.{rules}
use native.Mathlib.Omega.{arith}
use Prim.Native.Nat.{◌<◌, ◌-◌, ◌^◌}
use Rattle.fill_closure.specs.Looks.{PassState}
use Rattle.fill_closure.proofs.States.{closed-now}
use Rattle.fill_closure.proofs.passes.closure.Statement.{statement}
use Rattle.fill_closure.proofs.passes.closure.Tie as tie

abbrev invariant-loop : tie.invariant-loop-own
invariant-loop p rules start insides lasts kinds flags₀ made₀ own₀ flags made own =
    (own < 2 ^ 32) × PassState p rules start insides lasts kinds rules own flags made

abbrev decreases-loop : tie.decreases-loop-own
decreases-loop p rules start insides lasts kinds flags₀ made₀ own₀ flags made own = 2 ^ 32 - own

pub closure_spec : {M : Type 1} → statement M
closure_spec = tie.close (tie.spec
    invariant-loop decreases-loop (λ c κs. omega arith) (λ c. (omega arith, search rules)) (λ c κs. search rules) (λ c. search closed-now)
    (λ c. omega arith) (λ c. (omega arith, search rules)))
