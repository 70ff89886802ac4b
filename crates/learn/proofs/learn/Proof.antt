-- `learn::learn` meets its contract. Assumes nothing.
use borrow.Author.Rules.{rules}
use mathlib.Core.Path.{ap, sym, ◌∙◌}
use native.Mathlib.Omega.{arith}
use Rattle.recognizer.specs.Recognizer.{state_in}
use Rattle.recognizer.proofs.Calls.{was-invalid, was-valid}
use Rattle.learn.proofs.Calls.{learn-invalid, learn-over, learn-short}
use Rattle.learn.proofs.learn.Statement.{statement}
use Rattle.learn.proofs.learn.Tie as tie

returns : tie.Need-returns-then-not-valid
returns c =
    let left = c.refused.ensures in
    learn-invalid _ _ _ _ _ _ _ _ left.1 left.2 (ap state_in left.3)
    (was-invalid _ _ c.valid.ensures c.if-not-valid.true) left.0

returns-2 : tie.Need-returns-then-invalid
returns-2 c =
    let left = c.refused-then-invalid.ensures in
    let v = was-valid _ _ c.valid.ensures c.if-not-valid.false in
    learn-over _ _ _ _ _ _ _ _ left.1 left.2 (ap state_in left.3) v (sym c.invalid.ensures ∙ c.if-invalid.true) left.0

returns-3 : tie.Need-returns-then-room-lt-CELLS
returns-3 c =
    let left = c.refused-then-room-lt-CELLS.ensures in
    let v = was-valid _ _ c.valid.ensures c.if-not-valid.false in
    let s = sym c.invalid.ensures ∙ c.if-invalid.false in
    learn-short _ _ _ _ _ _ _ _ left.1 left.2 (ap state_in left.3) v s c.if-room-lt-CELLS.true left.0

learning-requires : tie.Need-learning-requires
learning-requires c κs =
    let v = was-valid _ _ c.valid.ensures c.if-not-valid.false in
    let s = sym c.invalid.ensures ∙ c.if-invalid.false in
    (v, s, c.if-room-lt-CELLS.false)

pub learn_spec : {M : Type 1} → statement M
learn_spec = tie.close (tie.spec
    (λ c κs. omega arith) (λ c κs. omega arith) returns (λ c κs. omega arith) (λ c κs. omega arith) returns-2
    (λ c κs. omega arith) returns-3 learning-requires (λ c. omega arith) (λ c. search rules))
