-- What the functions that make the tables over one span do: from what was right before to what is right after. A test gives the bytes that
-- are allowed at a position. Assumes nothing.
use Rattle.std.specs.Prelude.{ℕ, ◌+◌, Bool, List, ◌≡◌, length}
use Rattle.sizes.specs.Sizes.{max_rules}
use Rattle.chart.specs.Cell.{Fit}
use Rattle.table_layout.specs.Layout.{tables_size}
use Rattle.packed_fit.specs.Fit.{FitTold}
use Rattle.table_layout.specs.Exact.{CellTrue}
use Rattle.table_write.specs.Writes.{all_rows}
use Rattle.table_live.specs.Live.{ReachedOnly}
use Rattle.table_span.specs.Sofar.{Standing, SpanGiven, EmptyTrue, Sofar, OpenedSofar, LiveFrom}

-- the costs over the span from i to j that need no numbers of the whole span are written
pub record SpanOpened (p : List ℕ) (rules : ℕ) (fits : List ℕ) (reach i j : ℕ) (tables₀ rows₀ live₀ tables rows live : List ℕ)
    : Type 0 where
  pub long : length tables ≡ tables_size
  pub wide : length rows ≡ all_rows
  pub size : length live ≡ max_rules
  pub told : LiveFrom p rules (i + 1) j rows₀ live₀ → LiveFrom p rules i j rows live
  pub ends : ReachedOnly tables₀ reach i j → ReachedOnly tables reach i j
  pub exact : (fit : Fit) (can : ℕ → ℕ → Bool) → FitTold fit p fits j → ReachedOnly tables₀ reach i j
      → LiveFrom p rules (i + 1) j rows₀ live₀ → Sofar fit (Standing can) p rules (i + 1) j tables₀ rows₀
      → OpenedSofar fit (Standing can) p rules i j tables rows

-- the span from i to j is done
pub record SpanPut (p : List ℕ) (rules : ℕ) (fits : List ℕ) (members reach i j : ℕ) (tables₀ rows₀ live₀ tables rows live : List ℕ)
    : Type 0 where
  pub long : length tables ≡ tables_size
  pub wide : length rows ≡ all_rows
  pub size : length live ≡ max_rules
  pub told : LiveFrom p rules (i + 1) j rows₀ live₀ → LiveFrom p rules i j rows live
  pub exact : (fit : Fit) (can : ℕ → ℕ → Bool) → SpanGiven fit (Standing can) p rules fits j → CellTrue p (Standing can) i j members
      → ReachedOnly tables₀ reach i j → LiveFrom p rules (i + 1) j rows₀ live₀
      → Sofar fit (Standing can) p rules (i + 1) j tables₀ rows₀ → Sofar fit (Standing can) p rules i j tables rows

-- the empty span at j is done
pub record EmptyPut (p : List ℕ) (rules : ℕ) (fits empty : List ℕ) (j : ℕ) (tables₀ rows₀ tables rows : List ℕ) : Type 0 where
  pub long : length tables ≡ tables_size
  pub wide : length rows ≡ all_rows
  pub exact : (fit : Fit) (can : ℕ → ℕ → Bool) → FitTold fit p fits j → EmptyTrue p (Standing can) empty
      → Sofar fit (Standing can) p rules (j + 1) j tables₀ rows₀ → Sofar fit (Standing can) p rules j j tables rows
