-- Setting a point and returning to it (document 02, U6): the state, the answer "complete", and what the chart (sheet) holds at the end.
-- Assumes nothing.
use Rattle.std.specs.Prelude.{ℕ, ◌+◌, ◌-◌, cond, ◌||◌, List, [], ◌∷◌, map, eqb, leb, get_or, take, set}
use Rattle.cfg.specs.Grammar.{Cfg}
use Rattle.chart.specs.Column.{complete}
use Rattle.theory_clearing.specs.Clearing.{cleared}
use Rattle.sizes.specs.Sizes.{max_points}
use Rattle.grammar.specs.declared.Grammar.{Grammar}
use Rattle.grammar.specs.View.{dated, grammar_of}
use Rattle.results.specs.Answer.{refused, answered, Check, check, decide}
use Rattle.results.specs.Recognize.{State, hand_of, Recognition, grammar_check, state_check, chart_check}

-- 19, for setting: the name is over 7
abbrev pub name_check : ℕ → Check ℕ
name_check k = check (leb max_points k) 19

-- 19, for returning: the name is over 7, or its point is not set
abbrev pub point_check : State → ℕ → Check ℕ
point_check h k = check (leb max_points k || eqb (get_or h.points k 0) 0) 19

-- a point after a return to the count n: it is gone if it is past it, else it remains
unfoldable pub kept_point : ℕ → ℕ → ℕ
kept_point n p = cond (leb p (n + 1)) p 0

-- the points after a return to the count n
abbrev pub points_up_to : ℕ → List ℕ → List ℕ
points_up_to n points = map (kept_point n) points

-- setting the point of the name k, for the grammar G: it is at the count, wherever it was, and no cell is written
unfoldable pub set_point_in : Cfg → State → ℕ → List ℕ → Recognition
set_point_in G h k chart = record {
  answer = answered (complete G h.count chart);
  state = hand_of (take h.count h.bytes) (set h.points k (h.count + 1)) h.year;
  chart = chart;
}

-- returning to the count n, for the grammar G: the first n bytes remain, and the columns after column n are zero
unfoldable pub return_in : Cfg → State → ℕ → List ℕ → Recognition
return_in G h n chart =
    let left = cleared n chart in
    record {
      answer = answered (complete G n left);
      state = hand_of (take n h.bytes) (points_up_to n h.points) h.year;
      chart = left;
    }

-- setting a point, in the year of the state: if it is refused, it leaves the state and the chart as found
unfoldable pub set_point_of : Grammar → State → ℕ → List ℕ → Recognition
set_point_of g h k chart =
    decide (grammar_check g ∷ state_check h ∷ chart_check chart ∷ name_check k ∷ [])
    (λ n. record { answer = refused n; state = h; chart = chart })
    (λ _. set_point_in (grammar_of (dated g h.year)) h k chart)

-- returning to a point, in the year of the state: if it is refused, it leaves the state and the chart as found
unfoldable pub return_to_of : Grammar → State → ℕ → List ℕ → Recognition
return_to_of g h k chart =
    decide (grammar_check g ∷ state_check h ∷ chart_check chart ∷ point_check h k ∷ [])
    (λ n. record { answer = refused n; state = h; chart = chart })
    (λ _. return_in (grammar_of (dated g h.year)) h (get_or h.points k 0 - 1) chart)
