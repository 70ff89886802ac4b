-- `load_nullable::nullable_depth` meets its contract. The loop's invariant: d levels were made, and going on from there gives the depth.
-- The measure is what is left of 32 levels. Assumes nothing.
use Prim.Native.Nat.{◌-◌}
use native.Mathlib.Omega.{arith}
use Rattle.load_nullable.proofs.Depth.{Rising, rising-first, rising-valid, rising-less, rising-next, rising-last}
use Rattle.load_nullable.proofs.nullable_depth.Statement.{statement}
use Rattle.load_nullable.proofs.nullable_depth.Tie as tie

abbrev invariant-loop : tie.invariant-loop-level
invariant-loop g nullable level₀ d₀ level d = Rising g nullable level d

abbrev decreases-loop : tie.decreases-loop-level
decreases-loop g nullable level₀ d₀ level d = 32 - d

pub nullable_depth_spec : {M : Type 1} → statement M
nullable_depth_spec = tie.close (tie.spec
    invariant-loop decreases-loop (λ c. search rising-first) (λ c κs. search rising-valid) (λ c. omega arith) (λ c. search rising-less)
    (λ c. search rising-next) (λ c. search rising-last))
