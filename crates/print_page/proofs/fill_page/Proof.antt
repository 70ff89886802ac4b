-- `print_page::fill_page` meets its contract. The loop's invariant: the page so far is the front of the text that was ahead, and a further
-- line fits. The measure is the number of steps that are left. Assumes nothing.
use Prim.Native.Nat.{◌≤◌}
use native.Mathlib.Omega.{arith}
use borrow.Author.Rules.{rules}
use Rattle.print_begin.specs.Due.{steps_left}
use Rattle.check_length.specs.Measure.{lengths_in}
use Rattle.print_page.specs.Page.{room}
use Rattle.print_page.proofs.Paging.{Filled, filled_none, filled-step, filled-less, filled-full, filled-done, some-due, none-due}
use Rattle.print_page.proofs.fill_page.Statement.{statement}
use Rattle.print_page.proofs.fill_page.Tie as tie

abbrev invariant-loop : tie.invariant-loop-buf
invariant-loop p lengths fits chart tables buf₀ out₀ then₀ at₀ buf out then at =
    Filled (lengths_in lengths) p fits chart tables then₀ buf₀ buf out₀ out at then × (at ≤ room)

abbrev decreases-loop : tie.decreases-loop-buf
decreases-loop p lengths fits chart tables buf₀ out₀ then₀ at₀ buf out then at = steps_left then

pub fill_page_spec : {M : Type 1} → statement M
fill_page_spec = tie.close (tie.spec
    invariant-loop decreases-loop (λ c. (search filled_none, omega arith)) (λ c κs. search rules)
    -- a turn of the loop: `step` on the rest of the buffer
    (λ c. omega arith) (λ c. omega arith) (λ c. omega arith)
    (λ c κs. (search rules, omega arith, omega arith, omega arith, omega arith)) (λ c. omega arith)
    -- the page is full, or the loop goes on
    (λ c. omega arith) (λ c. omega arith) (λ c. search (filled-full, some-due)) (λ c. search (filled-less, some-due))
    (λ c. (search (filled-step, some-due), omega arith))
    -- nothing is due
    (λ c. omega arith) (λ c. omega arith) (λ c. search (filled-done, none-due)))
