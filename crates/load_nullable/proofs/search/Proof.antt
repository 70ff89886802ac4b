-- `load_nullable::search` meets its contract. The loop's invariant: the set's members are nullable, at least one for each pass before the
-- last one counted, and the search from there on gives what the whole search gives. The measure is the passes left. Assumes nothing.
use Prim.Native.Nat.{◌-◌}
use native.Mathlib.Omega.{arith}
use borrow.Author.Rules.{rules}
use Rattle.load_nullable.proofs.Exact.{Searching, searching-first, searching-next, searching-last}
use Rattle.load_nullable.proofs.search.Statement.{statement}
use Rattle.load_nullable.proofs.search.Tie as tie

abbrev invariant-loop : tie.invariant-loop-next
invariant-loop g known₀ next₀ passes₀ known next passes = Searching g known next passes

abbrev decreases-loop : tie.decreases-loop-next
decreases-loop g known₀ next₀ passes₀ known next passes = 34 - passes

pub search_spec : {M : Type 1} → statement M
search_spec = tie.close (tie.spec
    invariant-loop decreases-loop (λ c κs. search rules) (λ c. search searching-first) (λ c κs. search rules)
    (λ c. omega arith) (λ c. omega arith) (λ c. search searching-next) (λ c. search searching-last))
