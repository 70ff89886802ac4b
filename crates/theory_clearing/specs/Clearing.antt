-- Clearing the columns of a chart from one on (document 02, U6: a return zeroes the sheet's columns past the point). Assumes nothing.
use Rattle.std.specs.Prelude.{ℕ, zero, suc, ◌+◌, ◌-◌, List, replicate}
use Rattle.sizes.specs.Sizes.{max_input}
use Rattle.chart.specs.Column.{put_column}

-- the chart with zeros in column n, which is the cells (0, n) to (n, n)
unfoldable pub cleared_column : ℕ → List ℕ → List ℕ
cleared_column n chart = put_column chart n 0 (replicate (suc n) 0)

-- the chart with zeros in the m columns after column p
unfoldable pub cleared_columns : ℕ → ℕ → List ℕ → List ℕ
cleared_columns p zero chart = chart
cleared_columns p (suc m) chart = cleared_column (p + suc m) (cleared_columns p m chart)

-- the chart with zeros in all columns after column p
unfoldable pub cleared : ℕ → List ℕ → List ℕ
cleared p chart = cleared_columns p (max_input - p) chart
