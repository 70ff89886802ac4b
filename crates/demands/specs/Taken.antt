-- Taking a byte over ANY chart and any state, whatever they hold: what is left, and what "complete" says. The chart need not come from an
-- opening, and the byte need not follow the bytes that the chart was made for. Assumes nothing.
use Rattle.std.specs.Prelude.{ℕ, ◌≤◌, true, List, [], ◌∷◌, ◌++◌, ◌≢◌, ◌≡◌, length, get_or, take}
use Rattle.sets.specs.Set.{has}
use Rattle.cfg.specs.Grammar.{Cfg}
use Rattle.chart.specs.Cell.{index, cell, fits_at}
use Rattle.chart.specs.Closed.{Closed}
use Rattle.results.specs.Answer.{answered}
use Rattle.results.specs.Recognize.{State, hand_of, Recognition}

-- the bytes that have been taken, with the new one
abbrev pub input : State → ℕ → List ℕ
input h m = take h.count h.bytes ++ (m ∷ [])

-- the result r of taking the byte m, which is the n-th, in the state h over the chart found
pub record Taken (G : Cfg) (h : State) (m : ℕ) (found : List ℕ) (n : ℕ) (r : Recognition) : Type 0 where
  -- the state has the byte, and zeros after it, and keeps its points and its year
  pub state : r.state ≡ hand_of (input h m) h.points h.year
  -- the chart is as long as found, and of its numbers only the cells (i, n) for i = 0 to n are written
  pub long : length r.chart ≡ length found
  pub others : (p : ℕ) → ((i : ℕ) → i ≤ n → p ≢ index i n) → get_or r.chart p 0 ≡ get_or found p 0
  -- these cells are closed under the rules, with earlier columns as found
  pub closed : Closed G (fits_at (input h m)) found n (λ (i : ℕ). cell r.chart i n)
  -- and they are the least such cells
  pub least : (f : ℕ → ℕ) → Closed G (fits_at (input h m)) found n f → (i k : ℕ) → i ≤ n → has k (cell r.chart i n) ≡ true
      → has k (f i) ≡ true
  -- complete: the start symbol is in cell (0, n)
  pub complete : r.answer ≡ answered (has G.start (cell r.chart 0 n))
