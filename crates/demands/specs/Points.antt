-- Setting a point and returning to it (document 02, U6), over ANY chart and any state: what is kept, which refusal is given, what each
-- refusal leaves, and what is given otherwise. Assumes nothing.
use Rattle.std.specs.Prelude.{ℕ, ◌+◌, ◌-◌, ◌≤◌, ◌<◌, List, ◌≡◌, get_or, take, set}
use Rattle.sizes.specs.Sizes.{max_input}
use Rattle.sets.specs.Set.{has}
use Rattle.chart.specs.Cell.{cell}
use Rattle.grammar.specs.declared.Grammar.{Grammar}
use Rattle.results.specs.Answer.{refused, answered}
use Rattle.results.specs.Recognize.{State, hand_of, Recognition}
use Rattle.results.specs.Points.{points_up_to}
use Rattle.demands.specs.Kept.{ChartKept}
use Rattle.demands.specs.Order.{NoRefusal, SetOrder, ReturnOrder}

-- the result r of setting the point of the name k in the state h
pub record SetDemand (g : Grammar) (h : State) (k : ℕ) (chart : List ℕ) (r : Recognition) : Type 0 where
  -- the chart is as found, whatever the answer
  pub unwritten : r.chart ≡ chart
  pub order : SetOrder g h k chart r.answer
  -- if it is refused, it leaves the state as found
  pub untouched : (n : ℕ) → r.answer ≡ refused n → r.state ≡ h
  -- else the point is at the count, the unused bytes are zero, and all else is kept
  pub state : NoRefusal r.answer → r.state ≡ hand_of (take h.count h.bytes) (set h.points k (h.count + 1)) h.year
  -- complete: the start symbol is in the cell of the bytes taken
  pub complete : NoRefusal r.answer → r.answer ≡ answered (has g.start (cell chart 0 h.count))

-- the result r of returning to the count n, which is not refused, from the state h over the chart found
pub record Returned (g : Grammar) (h : State) (n : ℕ) (found : List ℕ) (r : Recognition) : Type 0 where
  -- the first n bytes remain, and zeros come after them; points past n are gone, and the others and the year are kept
  pub state : r.state ≡ hand_of (take n h.bytes) (points_up_to n h.points) h.year
  -- the cells of the columns after column n are zero
  pub zeros : (i j : ℕ) → n < j → j ≤ max_input → i ≤ j → cell r.chart i j ≡ 0
  -- all else is as found: columns up to n, what is below the diagonal, and what comes after the cells
  pub others : (i j : ℕ) → j ≤ max_input → (n < j → j < i) → cell r.chart i j ≡ cell found i j
  -- complete: the start symbol is in the cell of the bytes that remain
  pub complete : r.answer ≡ answered (has g.start (cell r.chart 0 n))

-- the result r of returning to the point of the name k from the state h
pub record ReturnDemand (g : Grammar) (h : State) (k : ℕ) (chart : List ℕ) (r : Recognition) : Type 0 where
  pub kept : ChartKept chart r.chart
  pub order : ReturnOrder g h k chart r.answer
  -- if it is refused, it leaves the chart and the state as found
  pub untouched : (n : ℕ) → r.answer ≡ refused n → (r.chart ≡ chart) × (r.state ≡ h)
  -- else it returns to the count at which the point was set
  pub returned : NoRefusal r.answer → Returned g h (get_or h.points k 0 - 1) chart r
