-- `points::return_to` meets its contract: each refusal is that of its check, and the target is a point of a valid state. Assumes nothing.
use Rattle.std.proofs.Common.{sym, ap, ◌∙◌}
use Rattle.results.specs.Points.{return_to_of}
use Rattle.recognizer.specs.Recognizer.{state_in}
use Rattle.recognizer.proofs.Calls.{was-invalid, was-valid}
use Rattle.points.proofs.Calls.{judged-invalid, judged-over, judged-short, judged-last}
use Rattle.points.proofs.States.{point-none, target-low}
use Rattle.points.proofs.return_to.Goals as goal

pub returns-then-not-valid : goal.returns-then-not-valid
unfolding return_to_of
returns-then-not-valid c =
    judged-invalid _ _ _ _ _ _ _ (ap state_in c.refused.ensures.1) (was-invalid _ _ c.valid.ensures c.if-not-valid.true) c.refused.ensures.0

pub returns-then-invalid : goal.returns-then-invalid
unfolding return_to_of
returns-then-invalid c =
    judged-over _ _ _ _ _ _ _ (ap state_in c.refused-then-invalid.ensures.1) (was-valid _ _ c.valid.ensures c.if-not-valid.false)
    (sym c.invalid.ensures ∙ c.if-invalid.true) c.refused-then-invalid.ensures.0

pub returns-then-room-lt-CELLS : goal.returns-then-room-lt-CELLS
unfolding return_to_of
returns-then-room-lt-CELLS c =
    judged-short _ _ _ _ _ _ _ (ap state_in c.refused-then-room-lt-CELLS.ensures.1) (was-valid _ _ c.valid.ensures c.if-not-valid.false)
    (sym c.invalid.ensures ∙ c.if-invalid.false) c.if-room-lt-CELLS.true c.refused-then-room-lt-CELLS.ensures.0

pub returns-in_default : goal.returns-in_default
unfolding return_to_of
returns-in_default c =
    judged-last _ _ _ _ _ _ _ (ap state_in c.refused-in_default.ensures.1) (was-valid _ _ c.valid.ensures c.if-not-valid.false)
    (sym c.invalid.ensures ∙ c.if-invalid.false) c.if-room-lt-CELLS.false
    (point-none (state_in c.args.h) c.args.name c.in_default.ensures) c.refused-in_default.ensures.0

pub returning-requires : goal.returning-requires
returning-requires c =
    let s = sym c.invalid.ensures ∙ c.if-invalid.false in (
      was-valid _ _ c.valid.ensures c.if-not-valid.false,
      s,
      c.if-room-lt-CELLS.false,
      c.in-Some.ensures,
      target-low (state_in c.args.h) c.args.name _ s c.in-Some.ensures,
    )
