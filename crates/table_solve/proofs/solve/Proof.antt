-- `table_solve::solve` meets its contract. The loop's invariant: each number is reached. The measure is the sum of the numbers: a pass
-- that changes something lowers it. Assumes nothing.
use borrow.Author.Rules.{rules}
use Rattle.table_solve.specs.Solve.{total, Numbers, AllReached}
use Rattle.table_solve.proofs.Passing.{numbers-none, reached-none, solved-nothing, reached-step, reached-less, solved-last}
use Rattle.table_solve.proofs.solve.Statement.{statement}
use Rattle.table_solve.proofs.solve.Tie as tie

abbrev invariant-loop : tie.invariant-loop-full
invariant-loop p rules cell mask tables i j full₀ full = Numbers full × AllReached p mask tables i j full

abbrev decreases-loop : tie.decreases-loop-full
decreases-loop p rules cell mask tables i j full₀ full = total full

pub solve_spec : {M : Type 1} → statement M
solve_spec = tie.close (tie.spec
    invariant-loop decreases-loop (λ c. search (rules, solved-nothing)) (λ c. (numbers-none, reached-none _ _ _ _ _)) (λ c κs. search rules)
    (λ c. search (rules, solved-last)) (λ c. search (rules, reached-less)) (λ c. search (rules, reached-step)))
