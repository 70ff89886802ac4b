-- Opening and taking: the state of the recognizer (document 01: the plate in hand), the answer "complete", and what the chart (sheet)
-- holds at the end. Assumes nothing.
use Rattle.std.specs.Prelude.{ℕ, ◌+◌, ◌-◌, Bool, not, ◌||◌, List, [], ◌∷◌, ◌++◌, eqb, ltb, leb, length, take, replicate}
use Rattle.cfg.specs.Grammar.{Cfg}
use Rattle.grammar.specs.declared.Grammar.{Grammar}
use Rattle.grammar.specs.Valid.{all, valid_grammar}
use Rattle.grammar.specs.View.{Dated, dated, grammar_of}
use Rattle.sizes.specs.Sizes.{max_input, max_points, cells}
use Rattle.chart.specs.Column.{opened, extended, complete}
use Rattle.results.specs.Answer.{Answer, refused, answered, Check, check, decide}

-- the state: 64 bytes, of which the first `count` have been taken, the year with which it was opened, and its points, each
-- 0 if it is not set, else one more than the count at which it was set
pub record State : Type 0 where
  pub bytes : List ℕ
  pub count : ℕ
  pub year : ℕ
  pub points : List ℕ

-- the state of these bytes, of which n have been taken, opened with the year y, with these points
abbrev pub state_with : List ℕ → ℕ → ℕ → List ℕ → State
state_with bytes n y points = record { bytes = bytes; count = n; year = y; points = points }

-- the state with another count
abbrev pub set_taken : State → ℕ → State
set_taken h n = state_with h.bytes n h.year h.points

-- the state that has taken w, with these points, opened with the year y: its unused bytes are zero
unfoldable pub hand_of : List ℕ → List ℕ → ℕ → State
hand_of w points y = state_with (w ++ replicate (max_input - length w) 0) (length w) y points

-- no point is set
abbrev pub no_points : List ℕ
no_points = replicate max_points 0

-- the state that has taken w, opened with the year y, with no point set
abbrev pub state_of : List ℕ → ℕ → State
state_of w y = hand_of w no_points y

-- what opening and taking give: the answer, yes if complete, the state, and what the chart holds at the end
pub record Recognition : Type 0 where
  pub answer : Answer Bool
  pub state : State
  pub chart : List ℕ

-- 8: the grammar handed in is not valid
abbrev pub grammar_check : Grammar → Check ℕ
grammar_check g = check (not (valid_grammar g)) 8

-- 10: the chart is shorter than 4,225 cells
abbrev pub chart_check : List ℕ → Check ℕ
chart_check chart = check (ltb (length chart) cells) 10

-- no set point is past the count n: each is at most one more than n
unfoldable pub points_within : ℕ → List ℕ → Bool
points_within n points = all (λ p. leb p (n + 1)) points

-- 14: a count over 64, or a set point past the count
abbrev pub state_check : State → Check ℕ
state_check h = check (ltb max_input h.count || not (points_within h.count h.points)) 14

-- opening, for the grammar G of the year y: the state keeps the year
unfoldable pub open_in : Cfg → ℕ → List ℕ → Recognition
open_in G y chart =
    let left = opened G chart in
    record { answer = answered (complete G 0 left); state = state_of [] y; chart = left }

-- opening: if it is refused, it gives a state of zeros, its year too, and leaves the chart as found
unfoldable pub open_of : Dated → List ℕ → Recognition
open_of g chart =
    decide (grammar_check g.grammar ∷ chart_check chart ∷ [])
    (λ n. record { answer = refused n; state = state_of [] 0; chart = chart })
    (λ _. open_in (grammar_of g) g.year chart)

-- taking a byte, for the grammar G: the state keeps its points and its year
unfoldable pub take_in : Cfg → State → ℕ → List ℕ → Recognition
take_in G h m chart =
    let w = take h.count h.bytes ++ (m ∷ []) in
    let left = extended G w chart in
    record { answer = answered (complete G (h.count + 1) left); state = hand_of w h.points h.year; chart = left }

-- taking a byte, in the year of the state: if it is refused, it leaves the state and the chart as found
unfoldable pub take_of : Grammar → State → ℕ → List ℕ → Recognition
take_of g h m chart =
    decide (grammar_check g ∷ state_check h ∷ chart_check chart ∷ check (eqb h.count max_input) 15 ∷ [])
    (λ n. record { answer = refused n; state = h; chart = chart })
    (λ _. take_in (grammar_of (dated g h.year)) h m chart)

-- taking bytes one after the other, each with the state and the chart that the call before it left
unfoldable pub fed : Grammar → Recognition → List ℕ → Recognition
fed g r [] = r
fed g r (m ∷ w) = fed g (take_of g r.state m r.chart) w
