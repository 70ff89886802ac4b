-- What is right when some spans are done: those that end before j, and those that end at j and start from i on. Assumes nothing.
use Rattle.std.specs.Prelude.{ℕ, ◌+◌, ◌*◌, ◌≤◌, ◌<◌, Bool, true, false, List, ◌≡◌, get_or}
use Rattle.sizes.specs.Sizes.{max_rules, side, too_many}
use Rattle.chart.specs.Cell.{Fit}
use Rattle.theory_costs.specs.Cut.{LeastCut, within}
use Rattle.theory_costs.specs.Lowest.{Lowest}
use Rattle.theory_costs.specs.Rule.{BareCost}
use Rattle.theory_costs.specs.Span.{Tells, TreeOver, Least}
use Rattle.packed.specs.Packed.{place_count, places_in}
use Rattle.table_suffix.specs.Within.{tail_in}
use Rattle.table_layout.specs.Layout.{cost_in, full_in, bare_in}
use Rattle.packed_fit.specs.Fit.{FitTold}
use Rattle.table_layout.specs.Exact.{Alones, Packing, PastLast}
use Rattle.table_write.specs.Writes.{place_at}
use Rattle.table_live.specs.Live.{Silent, live_in}

-- the bytes that are allowed at a position, given by a test
abbrev pub Standing : (ℕ → ℕ → Bool) → ℕ → ℕ → Type 0
Standing can a m = can a m ≡ true

-- the fit is that of the bytes and of the fit table up to j, and no number from `rules` on has a rule
pub record SpanGiven (fit : Fit) (bytes : ℕ → ℕ → Type 0) (p : List ℕ) (rules : ℕ) (fits : List ℕ) (j : ℕ) : Type 0 where
  pub tells : Tells fit bytes
  pub past : PastLast p rules
  pub told : FitTold fit p fits j

-- these numbers are the least over no byte
abbrev pub EmptyTrue : List ℕ → (ℕ → ℕ → Type 0) → List ℕ → Type 0
EmptyTrue p bytes empty = (k : ℕ) → Least (TreeOver (Packing p) bytes k 0 0) (full_in empty k)

-- the span from a to b is done: it ends before j, or at j and starts from i on. Positions are below 128, so this is one comparison
abbrev pub Done : ℕ → ℕ → ℕ → ℕ → Type 0
Done i j a b = 128 * b + i ≤ 128 * j + a

-- the tables are right for the spans done, and the rows have the costs up to j from the starts from i on
pub record Sofar (fit : Fit) (bytes : ℕ → ℕ → Type 0) (p : List ℕ) (rules i j : ℕ) (tables rows : List ℕ) : Type 0 where
  pub empty : ℕ → ℕ
  pub none : (k : ℕ) → Least (TreeOver (Packing p) bytes k 0 0) (empty k)
  pub beside : (r : ℕ) → r < max_rules → Alones empty p r tables
  pub least : (k a b : ℕ) → a ≤ b → b < side → Done i j a b → Least (TreeOver (Packing p) bytes k a b) (cost_in tables k a b)
  pub without : (a b r : ℕ) → a < b → b < side → Done i j a b → r < rules
      → Lowest (BareCost fit (cost_in tables) (places_in p r) a b) (bare_in tables a b r)
  pub starts : (r q c : ℕ) → r < rules → q ≤ place_count p r → i ≤ c → c ≤ j
      → LeastCut fit (cost_in tables) (tail_in p r q) c j (get_or rows (place_at r q c) 0)

-- Sofar for the starts after i, and for the span from i to j all that needs no numbers of the whole span
pub record OpenedSofar (fit : Fit) (bytes : ℕ → ℕ → Type 0) (p : List ℕ) (rules i j : ℕ) (tables rows : List ℕ) : Type 0 where
  pub sofar : Sofar fit bytes p rules (i + 1) j tables rows
  pub bare : (r : ℕ) → r < rules → Lowest (BareCost fit (cost_in tables) (places_in p r) i j) (bare_in tables i j r)
  pub column : (r q : ℕ) → r < rules → q ≤ place_count p r
      → LeastCut fit (within i j (λ _. too_many) (cost_in tables)) (tail_in p r q) i j (get_or rows (place_at r q i) 0)

-- from each start from a on and before j that is not live, the places of a rule after its first cost too much
pub record LiveFrom (p : List ℕ) (rules a j : ℕ) (rows live : List ℕ) : Type 0 where
  pub told : (r c : ℕ) → r < rules → a ≤ c → c < j → live_in live r c ≡ false → Silent p r c rows
