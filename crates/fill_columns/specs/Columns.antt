-- A column of the chart, written cell by cell from the last start down, with spans as bits. Assumes nothing.
use Rattle.std.specs.Prelude.{ℕ, ◌+◌, ◌≤◌, ◌<◌, List, [], ◌++◌, ◌≢◌, ◌≡◌, length, get_or, set, drop, replicate}
use Rattle.sizes.specs.Sizes.{cells, max_rules}
use Rattle.chart.specs.Cell.{Fit, cell, index, fits_at}
use Rattle.chart.specs.Column.{written, extended_by}
use Rattle.packed.specs.Packed.{cfg_in}
use Rattle.packed_fit.specs.Fit.{FitTold}
use Rattle.fill_rule.specs.Flags.{Cutting}
use Rattle.fill_words.specs.Spans.{starts_size}
use Rattle.fill_words.specs.Ends.{EndsTo, StartsFrom}

-- the chart with its column n written, by what fits the positions
abbrev pub column_by : List ℕ → Fit → ℕ → List ℕ → List ℕ
column_by p fit n chart = written (cfg_in 0 p) fit n chart

-- the same for an input
abbrev pub column_of : List ℕ → List ℕ → ℕ → List ℕ → List ℕ
column_of p w n chart = column_by p (fits_at w) n chart

-- the chart cleared, with own in its first cell
abbrev pub OpenedWith : ℕ → List ℕ → List ℕ → Type 0
OpenedWith own chart chart' = chart' ≡ set (replicate cells 0 ++ drop cells chart) 0 own

-- what is the same for all cells of column n: the fit table, the ends of the earlier columns, and the flags of the rules at n
pub record Around (p : List ℕ) (fit : Fit) (t found : List ℕ) (rules n : ℕ) (ends reach lasts : List ℕ) : Type 0 where
  pub fits : FitTold fit p t n
  pub told : EndsTo found n 0 ends reach
  pub after : (r : ℕ) → r < rules → Cutting fit (cell (column_by p fit n found)) p r n n (get_or lasts r 0)

-- the cells of column n from the start i on are written, and all else is as it was in the chart found; the starts from i on of the rules
-- below a number are known
pub record WrittenFrom (p : List ℕ) (fit : Fit) (found : List ℕ) (rules n i : ℕ) (chart starts live : List ℕ) : Type 0 where
  pub long : length chart ≡ length found
  pub cells : (x : ℕ) → ((a : ℕ) → a < i → x ≢ index a n) → get_or chart x 0 ≡ get_or (column_by p fit n found) x 0
  pub room : length starts ≡ starts_size
  pub live_room : length live ≡ max_rules
  pub from : StartsFrom fit (cell (column_by p fit n found)) p rules i n starts live

-- one more cell is written
pub record CellWritten (p t : List ℕ) (rules n i : ℕ) (ends reach lasts chart starts live chart' starts' live' : List ℕ) : Type 0 where
  pub long : length chart' ≡ length chart
  pub room : length starts' ≡ starts_size
  pub live_room : length live' ≡ max_rules
  pub step : (fit : Fit) (found : List ℕ) → cells ≤ length found → Around p fit t found rules n ends reach lasts → (j : ℕ) → j ≡ i + 1
      → WrittenFrom p fit found rules n j chart starts live → WrittenFrom p fit found rules n i chart' starts' live'

-- all cells before the last are written, and so is the column
pub record LowerWritten (p t : List ℕ) (rules n : ℕ) (ends reach lasts chart chart' : List ℕ) : Type 0 where
  pub long : length chart' ≡ length chart
  pub step : (fit : Fit) (found : List ℕ) → cells ≤ length found → Around p fit t found rules n ends reach lasts
      → WrittenFrom p fit found rules n n chart (replicate starts_size 0) (replicate max_rules 0) → chart' ≡ column_by p fit n found

-- column n was written, and is right for all that the fit table says if the ends of the columns before it are known
pub record ColumnWritten (p t : List ℕ) (n : ℕ) (ends reach chart chart' : List ℕ) : Type 0 where
  pub long : length chart' ≡ length chart
  pub exact : (fit : Fit) → FitTold fit p t n → EndsTo chart n 0 ends reach → chart' ≡ column_by p fit n chart

-- n positions were taken, and the chart is right for each input of which the fit table is true
pub record PositionsTaken (p t : List ℕ) (n : ℕ) (chart chart' : List ℕ) : Type 0 where
  pub long : length chart' ≡ length chart
  pub exact : (w : List ℕ) → length w ≡ n → FitTold (fits_at w) p t n → chart' ≡ extended_by (cfg_in 0 p) [] w chart
