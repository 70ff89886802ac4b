-- What setting a point and returning to it give, by the checks in the code: one law for each path through the code. Assumes nothing.
use Prim.Native.Nat.{ℕ, ◌+◌, ◌-◌, ◌≤◌, ◌<◌}
use mathlib.Core.Bool.{Bool, true, false}
use mathlib.Core.List.{List, [], ◌∷◌}
use mathlib.Core.Path.{◌≡◌, refl, ap, ◌∙◌}
use native.Mathlib.Omega.{arith}
use lib.ListN.{length, get_or, take, set}
use borrow.Author.Tests.{lt-ltb, le-ltb, lt-leb}
use Rattle.sizes.specs.Sizes.{cells, max_points}
use Rattle.sets.specs.Set.{has}
use Rattle.chart.specs.Cell.{cell}
use Rattle.chart.specs.Column.{complete}
use Rattle.theory_clearing.specs.Clearing.{cleared}
use Rattle.grammar.specs.declared.Grammar.{Grammar}
use Rattle.grammar.specs.Valid.{valid_grammar}
use Rattle.results.specs.Answer.{Answer, refused, answered, Check, decide}
use Rattle.results.specs.Recognize.{State, Recognition, hand_of, grammar_check, state_check, chart_check}
use Rattle.results.specs.Points.{points_up_to, set_point_in, return_in, set_point_of, return_to_of}
use Rattle.recognizer.proofs.Calls.{given, given-same}
use Rattle.points.proofs.States.{point-there}

-- ---- the checks of both calls, of which the last is `last`

abbrev pub judged : Grammar → State → List ℕ → Check ℕ → (Unit {0} → Recognition) → Recognition
judged g h chart last go =
    decide (grammar_check g ∷ state_check h ∷ chart_check chart ∷ last ∷ []) (λ n. given (refused n) h chart) go

module _ (g : Grammar) (h : State) (chart : List ℕ) (last : Check ℕ) (go : Unit {0} → Recognition) where
  module _ (a : Answer Bool) (k : State) (kept : k ≡ h) where
    pub judged-invalid : valid_grammar g ≡ false → a ≡ refused 8 → given a k chart ≡ judged g h chart last go
    unfolding decide
    judged-invalid v e = rw v (given-same a (refused 8) k h chart chart e kept refl)

    pub judged-over : valid_grammar g ≡ true → (state_check h).fails ≡ true → a ≡ refused 14 → given a k chart ≡ judged g h chart last go
    unfolding decide
    judged-over v s e = rw (v, s) (given-same a (refused 14) k h chart chart e kept refl)

    pub judged-short : valid_grammar g ≡ true → (state_check h).fails ≡ false → length chart < cells → a ≡ refused 10
        → given a k chart ≡ judged g h chart last go
    unfolding decide
    judged-short v s l e = rw (v, s, lt-ltb (length chart) cells l) (given-same a (refused 10) k h chart chart e kept refl)

    pub judged-last : valid_grammar g ≡ true → (state_check h).fails ≡ false → cells ≤ length chart → last.fails ≡ true
        → a ≡ refused last.refusal → given a k chart ≡ judged g h chart last go
    unfolding decide
    judged-last v s l f e =
        rw (v, s, le-ltb (length chart) cells l, f) (given-same a (refused last.refusal) k h chart chart e kept refl)

  pub judged-passed : (r : Recognition) → valid_grammar g ≡ true → (state_check h).fails ≡ false → cells ≤ length chart → last.fails ≡ false
      → r ≡ go tt → r ≡ judged g h chart last go
  unfolding decide
  judged-passed r v s l f e = rw (v, s, le-ltb (length chart) cells l, f) e

-- ---- what comes after them

module _ (g : Grammar) (h : State) (name : ℕ) (chart : List ℕ) (valid : valid_grammar g ≡ true) (state : (state_check h).fails ≡ false)
    (room : cells ≤ length chart) (a : Answer Bool) (k : State) where
  pub set-right : name < max_points → k ≡ hand_of (take h.count h.bytes) (set h.points name (h.count + 1)) h.year
      → a ≡ answered (has g.start (cell chart 0 h.count)) → given a k chart ≡ set_point_of g h name chart
  unfolding set_point_of set_point_in complete
  set-right l next e =
      judged-passed g h chart _ _ (given a k chart) valid state room (lt-leb max_points name l)
      (given-same a (answered (has g.start (cell chart 0 h.count))) k _ chart chart e next refl)

  pub return-right : (n : ℕ) (chart' : List ℕ) → length h.points ≡ max_points → get_or h.points name 0 ≡ n + 1
      → k ≡ hand_of (take n h.bytes) (points_up_to n h.points) h.year
      → chart' ≡ cleared n chart → a ≡ answered (has g.start (cell chart' 0 n)) → given a k chart' ≡ return_to_of g h name chart
  unfolding return_to_of return_in complete
  return-right n chart' long p next c e =
      let m : n ≡ get_or h.points name 0 - 1 = omega arith in
      judged-passed g h chart _ _ (given a k chart') valid state room (point-there h name n long p)
      (given-same a (answered (has g.start (cell (cleared n chart) 0 n))) k _ chart' (cleared n chart)
      (e ∙ ap (λ (x : List ℕ). answered (has g.start (cell x 0 n))) c) next c
      ∙ ap (λ (x : ℕ). given (answered (has g.start (cell (cleared x chart) 0 x)))
      (hand_of (take x h.bytes) (points_up_to x h.points) h.year) (cleared x chart)) m)
