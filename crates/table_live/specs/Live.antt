-- The live starts of a rule up to one end, and its rows from one start, computed or passed over. Assumes nothing.
use Rattle.std.specs.Prelude.{ℕ, ◌+◌, ◌*◌, ◌≤◌, ◌<◌, Bool, true, false, List, ◌≢◌, ◌≡◌, length, get_or}
use Rattle.sizes.specs.Sizes.{max_rules, too_many}
use Rattle.sets.specs.Set.{has}
use Rattle.chart.specs.Cell.{Fit}
use Rattle.packed.specs.Packed.{place_count}
use Rattle.table_layout.specs.Layout.{rows_size, cost_in}
use Rattle.packed_fit.specs.Fit.{FitTold}
use Rattle.table_suffix.specs.Within.{tail_in, InsideCost, LaterStarts}
use Rattle.table_write.specs.Writes.{place_at}

-- from c on, the places of rule r after its first cost too much: 513 or more
abbrev pub Silent : List ℕ → ℕ → ℕ → List ℕ → Type 0
Silent p r c rows = (q : ℕ) → 0 < q → q ≤ place_count p r → too_many ≤ get_or rows (place_at r q c) 0

-- whether c is a live start of rule r
abbrev pub live_in : List ℕ → ℕ → ℕ → Bool
live_in live r c = has c (get_or live r 0)

-- a start that is not live now was not live before
abbrev pub Grown : List ℕ → List ℕ → Type 0
Grown live₀ live = (r c : ℕ) → live_in live r c ≡ false → live_in live₀ r c ≡ false

-- from each start between i and j that is not live, the places of rule r after its first cost too much
abbrev pub LiveTold : List ℕ → ℕ → ℕ → ℕ → List ℕ → List ℕ → Type 0
LiveTold p r i j rows live = (c : ℕ) → i < c → c < j → live_in live r c ≡ false → Silent p r c rows

-- each end between i and j that is not in the set `reach` costs too much
abbrev pub ReachedOnly : List ℕ → ℕ → ℕ → ℕ → Type 0
ReachedOnly tables reach i j = (k c : ℕ) → i < c → c < j → has c reach ≡ false → too_many ≤ cost_in tables k i c

-- i is now a live start of rule r, or the places after its first cost too much from i on
pub record Marked (p : List ℕ) (r i : ℕ) (rows live₀ live : List ℕ) : Type 0 where
  pub size : length live ≡ max_rules
  pub grown : Grown live₀ live
  pub here : live_in live r i ≡ false → Silent p r i rows

-- v is after i, and no end between i and v is in both sets
pub record FirstEnd (i reach live v : ℕ) : Type 0 where
  pub behind : i < v
  pub none : (c : ℕ) → i < c → c < v → has c reach ≡ true → has c live ≡ false

-- the rows are unchanged except for the costs of rule r from the start i
abbrev pub OneRule : List ℕ → ℕ → ℕ → List ℕ → List ℕ → Type 0
OneRule p r i rows₀ rows = (n : ℕ) → ((s : ℕ) → s ≤ place_count p r → n ≢ place_at r s i) → get_or rows n 0 ≡ get_or rows₀ n 0

-- 513 is written from the start i for the places before q of rule r; all other numbers are unchanged
pub record NoneBefore (p : List ℕ) (r i q : ℕ) (rows₀ rows : List ℕ) : Type 0 where
  pub long : length rows ≡ length rows₀
  pub other : OneRule p r i rows₀ rows
  pub here : (s : ℕ) → s < q → get_or rows (place_at r s i) 0 ≡ too_many

-- 513 is written from the start i for all places of rule r and after the last; all other numbers are unchanged
abbrev pub NonePut : List ℕ → ℕ → ℕ → List ℕ → List ℕ → Type 0
NonePut p r i rows₀ rows = NoneBefore p r i (place_count p r + 1) rows₀ rows

-- the costs of rule r from the start i are written, and its live starts are marked; the costs are right if the ends not in `reach` cost too
-- much and the live starts between i and j are known
pub record RuleRowsPut (p : List ℕ) (r : ℕ) (fits tables full : List ℕ) (reach i j : ℕ) (rows₀ live₀ rows live : List ℕ) : Type 0 where
  pub long : length rows ≡ length rows₀
  pub other : OneRule p r i rows₀ rows
  pub exact : (fit : Fit) → FitTold fit p fits j → ReachedOnly tables reach i j → LiveTold p r i j rows₀ live₀
      → LaterStarts fit p r tables full i i j rows₀ (rows_size * r)
      → (s : ℕ) → s ≤ place_count p r → InsideCost fit tables full i j (tail_in p r s) i (get_or rows (place_at r s i) 0)
  pub marked : Marked p r i rows live₀ live
