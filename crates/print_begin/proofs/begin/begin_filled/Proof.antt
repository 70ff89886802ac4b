-- `print_begin::begin::begin_filled` meets its contract: `NO READING` where the chart is not complete. Assumes nothing.
use native.Mathlib.Omega.{arith}
use borrow.Author.Rules.{rules}
use Rattle.print_begin.proofs.Opening.{filled_none, filled-complete}
use Rattle.print_begin.proofs.begin.begin_filled.Statement.{statement}
use Rattle.print_begin.proofs.begin.begin_filled.Tie as tie

pub begin_filled_spec : {M : Type 1} → statement M
begin_filled_spec = tie.close (tie.spec
    (λ c κs. omega arith) (λ c κs. search rules) (λ c. omega arith) (λ c. search filled-complete) (λ c. search filled_none))
