-- The rows of all rules, written for one start. Assumes nothing.
use Rattle.std.specs.Prelude.{ℕ, ◌*◌, ◌≤◌, ◌<◌, true, false, List, ◌≢◌, ◌≡◌, length, get_or}
use Rattle.sizes.specs.Sizes.{max_rules, max_places, side}
use Rattle.sets.specs.Set.{has}
use Rattle.chart.specs.Cell.{Fit}
use Rattle.packed.specs.Packed.{place_count, is_nonterminal_in, value_in}
use Rattle.table_suffix.specs.Within.{tail_in, InsideCost, LaterStarts}
use Rattle.table_layout.specs.Layout.{rows_size}
use Rattle.packed_fit.specs.Fit.{FitTold}
use Rattle.table_write.specs.Writes.{all_rows, place_at}
use Rattle.table_live.specs.Live.{Silent, live_in, Grown, LiveTold, ReachedOnly}

-- no place of rule r has a nonterminal of the cell
pub record Untouched (p : List ℕ) (r cell : ℕ) : Type 0 where
  pub none : (q : ℕ) → q < place_count p r → is_nonterminal_in p r q ≡ true → has (value_in p r q) cell ≡ false

-- the rows are unchanged except for the costs from the start i
abbrev pub OtherStarts : ℕ → List ℕ → List ℕ → Type 0
OtherStarts i rows₀ rows = (r q c : ℕ) → r < max_rules → q ≤ max_places → c < side → c ≢ i
    → get_or rows (place_at r q c) 0 ≡ get_or rows₀ (place_at r q c) 0

-- the rows have the right costs from i to j of the places of rule r
abbrev pub StartRight : Fit → List ℕ → ℕ → List ℕ → List ℕ → ℕ → ℕ → List ℕ → Type 0
StartRight fit p r tables full i j rows = (q : ℕ) → q ≤ place_count p r
    → InsideCost fit tables full i j (tail_in p r q) i (get_or rows (place_at r q i) 0)

-- those costs are written for the rules below m
pub record StartsPut (p : List ℕ) (m : ℕ) (fits tables full : List ℕ) (i j : ℕ) (rows₀ rows : List ℕ) : Type 0 where
  pub long : length rows ≡ all_rows
  pub other : OtherStarts i rows₀ rows
  pub exact : (fit : Fit) → FitTold fit p fits j → (r : ℕ) → r < m → LaterStarts fit p r tables full i i j rows₀ (rows_size * r)
      → StartRight fit p r tables full i j rows

-- those costs without a child over the whole span are written for the rules below m, and i is marked if it is live; the costs are right
-- if the ends not in `reach` cost too much and the live starts between i and j are known
pub record StartsOpened (p : List ℕ) (m : ℕ) (fits tables full : List ℕ) (reach i j : ℕ) (rows₀ live₀ rows live : List ℕ) : Type 0 where
  pub long : length rows ≡ all_rows
  pub size : length live ≡ max_rules
  pub other : OtherStarts i rows₀ rows
  pub exact : (fit : Fit) → FitTold fit p fits j → ReachedOnly tables reach i j → (r : ℕ) → r < m → LiveTold p r i j rows₀ live₀
      → LaterStarts fit p r tables full i i j rows₀ (rows_size * r) → StartRight fit p r tables full i j rows
  pub grown : Grown live₀ live
  pub told : (r : ℕ) → r < m → live_in live r i ≡ false → Silent p r i rows

-- those costs are written for the rules below m that have a nonterminal of the cell in a place; they are right if the ends not in `reach`
-- cost too much and the live starts are known. For the other rules the costs were right before, and so was the mark of i
pub record SuffixesPut (p : List ℕ) (m : ℕ) (fits tables full : List ℕ) (cell reach i j : ℕ) (rows₀ live₀ rows live : List ℕ)
    : Type 0 where
  pub long : length rows ≡ all_rows
  pub size : length live ≡ max_rules
  pub other : OtherStarts i rows₀ rows
  pub later : (r q : ℕ) → m ≤ r → r < max_rules → q ≤ max_places → get_or rows (place_at r q i) 0 ≡ get_or rows₀ (place_at r q i) 0
  pub exact : (fit : Fit) → FitTold fit p fits j → ReachedOnly tables reach i j → (r : ℕ) → r < m → LiveTold p r i j rows₀ live₀
      → LaterStarts fit p r tables full i i j rows₀ (rows_size * r) → (Untouched p r cell → StartRight fit p r tables full i j rows₀)
      → StartRight fit p r tables full i j rows
  pub grown : Grown live₀ live
  pub told : (r : ℕ) → r < m → (live_in live₀ r i ≡ false → Silent p r i rows₀) → live_in live r i ≡ false → Silent p r i rows
