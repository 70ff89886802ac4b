-- `recognizer::open` meets its contract. Assumes nothing.
use borrow.Author.Rules.{rules}
use native.Mathlib.Omega.{arith}
use Rattle.recognizer.proofs.Calls.{was-invalid, was-valid, open-invalid, open-short}
use Rattle.recognizer.specs.Recognizer.{state_in}
use mathlib.Core.Path.{ap, ◌∙◌}
use Rattle.recognizer.proofs.open.Statement.{statement}
use Rattle.recognizer.proofs.open.Tie as tie

returns : tie.Need-returns-then-not-valid
returns c =
    open-invalid _ _ _ _ _ (ap state_in c.refused.ensures.1 ∙ c.before.blank.ensures)
    (was-invalid _ _ c.before.before.before.valid.ensures c.before.before.if-not-valid.true) c.refused.ensures.0

returns-2 : tie.Need-returns-then-chart-lt-CELLS
returns-2 c =
    let d = c.before.before in
    let v = was-valid _ _ d.before.before.valid.ensures d.before.if-not-valid.false in
    open-short _ _ _ _ _ (ap state_in c.refused-then-chart-lt-CELLS.ensures.1 ∙ c.before.blank-then-chart-lt-CELLS.ensures) v d.if-chart-lt-CELLS.true c.refused-then-chart-lt-CELLS.ensures.0

opening-requires : tie.Need-opening-requires
opening-requires c κs =
    let d = c.before in
    (was-valid _ _ d.before.before.valid.ensures d.before.if-not-valid.false, d.if-chart-lt-CELLS.false)

pub open_spec : {M : Type 1} → statement M
open_spec = tie.close (tie.spec
    (λ c κs. omega arith) (λ c κs. omega arith) (λ c κs. omega arith) returns (λ c κs. omega arith) (λ c κs. omega arith) returns-2
    opening-requires (λ c. omega arith) (λ c. search rules))
