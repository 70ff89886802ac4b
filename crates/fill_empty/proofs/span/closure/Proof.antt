-- `fill_empty::span::closure` meets its contract. The loop's invariant: the set has nothing that a closed set lacks.
-- The measure is what is left of the numbers of 32 bits. Assumes nothing.
use native.Mathlib.Omega.{arith}
use Prim.Native.Nat.{◌<◌, ◌-◌, ◌^◌}
use Rattle.fill_empty.proofs.Nothing.{EmptyReached, reached-start, reached-step, empty-closed}
use Rattle.fill_empty.proofs.span.closure.Statement.{statement}
use Rattle.fill_empty.proofs.span.closure.Tie as tie

abbrev invariant-loop : tie.invariant-loop-own
invariant-loop p rules lasts₀ own₀ lasts own = (own < 2 ^ 32) × EmptyReached p own lasts

abbrev decreases-loop : tie.decreases-loop-own
decreases-loop p rules lasts₀ own₀ lasts own = 2 ^ 32 - own

pub closure_spec : {M : Type 1} → statement M
closure_spec = tie.close (tie.spec
    invariant-loop decreases-loop (λ c. (omega arith, search reached-start)) (λ c κs. omega arith) (λ c. search empty-closed) (λ c. omega arith)
    (λ c. (omega arith, search reached-step)))
