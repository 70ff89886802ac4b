-- `recognizer::Recognizer::take` meets its contract. Assumes nothing.
use borrow.Author.Rules.{rules}
use Rattle.recognizer.proofs.Calls.{was-invalid, was-valid, take-invalid, take-over, take_short, take-full}
use Rattle.recognizer.proofs.Checked.{count-below}
use Rattle.recognizer.specs.Recognizer.{state_in}
use mathlib.Core.Path.{ap, sym, ◌∙◌}
use native.Mathlib.Omega.{arith}
use Rattle.recognizer.proofs.Recognizer.take.Statement.{statement}
use Rattle.recognizer.proofs.Recognizer.take.Tie as tie

returns : tie.Need-returns-then-not-valid
returns c =
    take-invalid _ _ _ _ _ _ (ap state_in c.refused.ensures.1)
    (was-invalid _ _ c.before.before.valid.ensures c.before.if-not-valid.true) c.refused.ensures.0

returns-2 : tie.Need-returns-then-invalid
returns-2 c =
    let d = c.before.before in
    let v = was-valid _ _ d.before.before.valid.ensures d.before.if-not-valid.false in
    take-over _ _ _ _ _ _ (ap state_in c.refused-then-invalid.ensures.1) v
    (sym d.invalid.ensures ∙ c.before.if-invalid.true) c.refused-then-invalid.ensures.0

returns-3 : tie.Need-returns-then-room-lt-CELLS
returns-3 c =
    let d = c.before.before in
    let v = was-valid _ _ d.before.before.before.valid.ensures d.before.before.if-not-valid.false in
    let s = sym d.before.invalid.ensures ∙ d.if-invalid.false in
    take_short _ _ _ _ _ _ (ap state_in c.refused-then-room-lt-CELLS.ensures.1) v s c.before.if-room-lt-CELLS.true c.refused-then-room-lt-CELLS.ensures.0

returns-4 : tie.Need-returns-then-n-eq-MAX_INPUT
returns-4 c =
    let d = c.before.before.before in
    let v = was-valid _ _ d.before.before.before.valid.ensures d.before.before.if-not-valid.false in
    let s = sym d.before.invalid.ensures ∙ d.if-invalid.false in
    take-full _ _ _ _ _ _ (ap state_in c.refused-then-n-eq-MAX_INPUT.ensures.1) v s c.before.before.if-room-lt-CELLS.false c.before.if-n-eq-MAX_INPUT.true
    c.refused-then-n-eq-MAX_INPUT.ensures.0

taking-requires : tie.Need-taking-requires
taking-requires c κs =
    let d = c.before.before.before in
    let v = was-valid _ _ d.before.before.before.valid.ensures d.before.before.if-not-valid.false in
    let s = sym d.before.invalid.ensures ∙ d.if-invalid.false in
    let h = state_in d.before.before.before.before.before.args.self in
    (v, s, count-below h s c.before.if-n-eq-MAX_INPUT.false, c.before.before.if-room-lt-CELLS.false)

pub take_spec : {M : Type 1} → statement M
take_spec = tie.close (tie.spec
    (λ c κs. omega arith) (λ c κs. omega arith) returns (λ c κs. omega arith) (λ c κs. omega arith) returns-2
    (λ c κs. omega arith) returns-3 (λ c κs. omega arith) returns-4 taking-requires (λ c. omega arith) (λ c. search rules))
