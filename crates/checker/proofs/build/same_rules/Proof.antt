-- `checker::build::same_rules` meets its contract. The loop's invariant: what is left of the two lists is compared as the whole lists are.
-- The measure is the number of nodes left in the first row. Assumes nothing.
use Prim.Native.Nat.{◌-◌, ◌/◌}
use mathlib.Core.Path.{◌≡◌, refl}
use native.Mathlib.Omega.{arith}
use lib.ListN.{length}
use Rattle.checker.proofs.Used.{Comparing, comparing-start, second-ends, rules-differ, rules-agree, first_ends}
use Rattle.checker.proofs.build.same_rules.Statement.{statement}
use Rattle.checker.proofs.build.same_rules.Tie as tie

abbrev invariant-loop : tie.invariant-loop-i
invariant-loop a b n m i₀ j₀ i j = (n ≡ length a / 2) × (m ≡ length b / 2) × Comparing a b i j

abbrev decreases-loop : tie.decreases-loop-i
decreases-loop a b n m i₀ j₀ i j = n - i

pub same_rules_spec : {M : Type 1} → statement M
same_rules_spec = tie.close (tie.spec
    invariant-loop decreases-loop (λ c κs. omega arith) (λ c κs. omega arith) (λ c. (refl, refl, search comparing-start))
    -- j >= m
    (λ c. search second-ends)
    -- a[2 * i + 1] != b[2 * j + 1]
    (λ c. omega arith) (λ c. omega arith) (λ c. omega arith) (λ c. omega arith)
    (λ c. omega arith) (λ c. omega arith) (λ c. omega arith) (λ c. omega arith) (λ c. search rules-differ)
    -- the calls of `next_used`, a turn
    (λ c. omega arith) (λ c κs. omega arith) (λ c. omega arith) (λ c κs. omega arith)
    (λ c. omega (arith, c.before.next_used-i-in-loop-i.ensures.onward)) (λ c. (refl, refl, search rules-agree))
    -- the end
    (λ c. search first_ends))
