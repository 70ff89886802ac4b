-- `points::set_point` meets its contract. Assumes nothing.
use borrow.Author.Rules.{rules}
use mathlib.Core.Path.{ap, sym, ◌∙◌}
use native.Mathlib.Omega.{arith}
use borrow.Author.Tests.{le-leb}
use Rattle.results.specs.Points.{set_point_of}
use Rattle.recognizer.specs.Recognizer.{state_in}
use Rattle.recognizer.proofs.Calls.{was-invalid, was-valid}
use Rattle.results.proofs.State.{count_low}
use Rattle.points.proofs.Calls.{judged-invalid, judged-over, judged-short, judged-last}
use Rattle.points.proofs.set_point.Statement.{statement}
use Rattle.points.proofs.set_point.Tie as tie

returns : tie.Need-returns-then-not-valid
unfolding set_point_of
returns c =
    judged-invalid _ _ _ _ _ _ _ (ap state_in c.refused.ensures.1)
    (was-invalid _ _ c.before.before.valid.ensures c.before.if-not-valid.true) c.refused.ensures.0

returns-2 : tie.Need-returns-then-invalid
unfolding set_point_of
returns-2 c =
    let d = c.before.before in
    let v = was-valid _ _ d.before.before.valid.ensures d.before.if-not-valid.false in
    judged-over _ _ _ _ _ _ _ (ap state_in c.refused-then-invalid.ensures.1) v (sym d.invalid.ensures ∙ c.before.if-invalid.true)
    c.refused-then-invalid.ensures.0

returns-3 : tie.Need-returns-then-room-lt-CELLS
unfolding set_point_of
returns-3 c =
    let d = c.before.before in
    let v = was-valid _ _ d.before.before.before.valid.ensures d.before.before.if-not-valid.false in
    let s = sym d.before.invalid.ensures ∙ d.if-invalid.false in
    judged-short _ _ _ _ _ _ _ (ap state_in c.refused-then-room-lt-CELLS.ensures.1) v s c.before.if-room-lt-CELLS.true c.refused-then-room-lt-CELLS.ensures.0

returns-4 : tie.Need-returns-then-name-ge-POINTS
unfolding set_point_of
returns-4 c =
    let d = c.before.before.before in
    let v = was-valid _ _ d.before.before.before.valid.ensures d.before.before.if-not-valid.false in
    let s = sym d.before.invalid.ensures ∙ d.if-invalid.false in
    judged-last _ _ _ _ _ _ _ (ap state_in c.refused-then-name-ge-POINTS.ensures.1) v s c.before.before.if-room-lt-CELLS.false
    (le-leb _ _ c.before.if-name-ge-POINTS.true) c.refused-then-name-ge-POINTS.ensures.0

setting-requires : tie.Need-setting-requires
setting-requires c κs =
    let d = c.before.before in
    let v = was-valid _ _ d.before.before.before.valid.ensures d.before.before.if-not-valid.false in
    let s = sym d.before.invalid.ensures ∙ d.if-invalid.false in
    (v, s, c.before.if-room-lt-CELLS.false, c.if-name-ge-POINTS.false, count_low (state_in d.before.before.before.before.before.args.h) s)

pub set_point_spec : {M : Type 1} → statement M
set_point_spec = tie.close (tie.spec
    (λ c κs. omega arith) (λ c κs. omega arith) returns (λ c κs. omega arith) (λ c κs. omega arith) returns-2
    (λ c κs. omega arith) returns-3 (λ c κs. omega arith) returns-4 setting-requires (λ c. search rules))
