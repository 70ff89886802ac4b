-- What the functions that make the tables span by span do: from what was right before to what is right after. A test gives the bytes that
-- are allowed at a position. Assumes nothing.
use Rattle.std.specs.Prelude.{ℕ, ◌+◌, ◌<◌, Bool, List, ◌≡◌, length}
use Rattle.sizes.specs.Sizes.{max_rules}
use Rattle.chart.specs.Cell.{Fit}
use Rattle.theory_costs.specs.Span.{Tells}
use Rattle.table_layout.specs.Layout.{tables_size, full_in}
use Rattle.packed_fit.specs.Fit.{FitTold}
use Rattle.table_layout.specs.Exact.{Alones, PastLast, ChartTrue, ExactTables}
use Rattle.table_write.specs.Writes.{all_rows}
use Rattle.table_span.specs.Sofar.{Standing, SpanGiven, EmptyTrue, Sofar, LiveFrom}

-- the spans that end at j and start from i on are done; tables₀ and rows₀ are those after the empty span
pub record EndFrom (p : List ℕ) (rules : ℕ) (fits chart : List ℕ) (i j : ℕ) (tables₀ rows₀ tables rows live : List ℕ) : Type 0 where
  pub long : length tables ≡ tables_size
  pub wide : length rows ≡ all_rows
  pub size : length live ≡ max_rules
  pub told : LiveFrom p rules i j rows live
  pub exact : (fit : Fit) (can : ℕ → ℕ → Bool) → SpanGiven fit (Standing can) p rules fits j → ChartTrue p (Standing can) chart j
      → Sofar fit (Standing can) p rules j j tables₀ rows₀ → Sofar fit (Standing can) p rules i j tables rows

-- all spans that end at j are done
pub record EndDone (p : List ℕ) (rules : ℕ) (fits chart empty : List ℕ) (j : ℕ) (tables₀ rows₀ tables rows : List ℕ) : Type 0 where
  pub long : length tables ≡ tables_size
  pub wide : length rows ≡ all_rows
  pub exact : (fit : Fit) (can : ℕ → ℕ → Bool) → SpanGiven fit (Standing can) p rules fits j → EmptyTrue p (Standing can) empty
      → ChartTrue p (Standing can) chart j → Sofar fit (Standing can) p rules (j + 1) j tables₀ rows₀
      → Sofar fit (Standing can) p rules 0 j tables rows

-- the spans that end before j are done
pub record EndsDone (p : List ℕ) (rules : ℕ) (fits chart empty : List ℕ) (n j : ℕ) (tables₀ tables rows : List ℕ) : Type 0 where
  pub long : length tables ≡ tables_size
  pub wide : length rows ≡ all_rows
  pub exact : (fit : Fit) (can : ℕ → ℕ → Bool) → SpanGiven fit (Standing can) p rules fits n → EmptyTrue p (Standing can) empty
      → ChartTrue p (Standing can) chart n → ((r : ℕ) → r < max_rules → Alones (full_in empty) p r tables₀)
      → Sofar fit (Standing can) p rules (j + 1) j tables rows

-- all spans up to n are done
pub record EndsPut (p : List ℕ) (rules : ℕ) (fits chart empty : List ℕ) (n : ℕ) (tables₀ tables : List ℕ) : Type 0 where
  pub long : length tables ≡ tables_size
  pub exact : (fit : Fit) (can : ℕ → ℕ → Bool) → SpanGiven fit (Standing can) p rules fits n → EmptyTrue p (Standing can) empty
      → ChartTrue p (Standing can) chart n → ((r : ℕ) → r < max_rules → Alones (full_in empty) p r tables₀)
      → ExactTables fit (Standing can) p n tables

-- the tables are right for every span up to n
pub record Tabulated (p : List ℕ) (rules : ℕ) (fits chart : List ℕ) (n : ℕ) (tables : List ℕ) : Type 0 where
  pub long : length tables ≡ tables_size
  pub exact : (fit : Fit) (can : ℕ → ℕ → Bool) → Tells fit (Standing can) → PastLast p rules → FitTold fit p fits n
      → ChartTrue p (Standing can) chart n → ExactTables fit (Standing can) p n tables
