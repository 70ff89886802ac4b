-- The least costs of the places of a rule, written for one start and for all starts of a span. The fit table says which places fit.
-- Assumes nothing.
use Rattle.std.specs.Prelude.{ℕ, ◌≤◌, ◌<◌, List, ◌≢◌, ◌≡◌, length, get_or}
use Rattle.chart.specs.Cell.{Fit}
use Rattle.packed.specs.Packed.{place_count}
use Rattle.packed_fit.specs.Fit.{entry_in, FitTold}
use Rattle.table_layout.specs.Layout.{rows_size}
use Rattle.table_suffix.specs.Within.{tail_in, InsideCost, row_at, LaterStarts, EndsPassed}

-- v has the places of rule r that fit position a, if a is before j
pub record WordAt (fits : List ℕ) (r a j v : ℕ) : Type 0 where
  pub told : a < j → v ≡ entry_in fits a r

-- all costs of rule r from the start a are written into its rows; all other numbers are unchanged
pub record StartPut (p : List ℕ) (r : ℕ) (fits tables full : List ℕ) (i a from j at : ℕ) (rows₀ rows : List ℕ) : Type 0 where
  pub long : length rows ≡ length rows₀
  pub other : (n : ℕ) → ((s : ℕ) → s ≤ place_count p r → n ≢ row_at at s a) → get_or rows n 0 ≡ get_or rows₀ n 0
  pub exact : (fit : Fit) → FitTold fit p fits j → EndsPassed p r tables a from j rows₀ at
      → LaterStarts fit p r tables full i a j rows₀ at
      → (s : ℕ) → s ≤ place_count p r → InsideCost fit tables full i j (tail_in p r s) a (get_or rows (row_at at s a) 0)

-- the rows of rule r, which begin at 0, have the costs from each start from a on
pub record RowsFrom (p : List ℕ) (r : ℕ) (fits tables full : List ℕ) (i a j : ℕ) (rows : List ℕ) : Type 0 where
  pub long : length rows ≡ rows_size
  pub exact : (fit : Fit) → FitTold fit p fits j → (q c : ℕ) → q ≤ place_count p r → a ≤ c → c ≤ j
      → InsideCost fit tables full i j (tail_in p r q) c (get_or rows (row_at 0 q c) 0)

-- the rows of rule r have the costs from all starts of the span
abbrev pub RowsPut : List ℕ → ℕ → List ℕ → List ℕ → List ℕ → ℕ → ℕ → List ℕ → Type 0
RowsPut p r fits tables full i j rows = RowsFrom p r fits tables full i i j rows
