-- The cost of a rule over a span that is not empty, from its cost without a child over the whole span. Assumes nothing.
use Rattle.std.specs.Prelude.{ℕ, ◌<◌, List, ◌≢◌, ◌≡◌, length}
use Rattle.sizes.specs.Sizes.{max_places}
use Rattle.chart.specs.Cell.{Fit}
use Rattle.theory_costs.specs.Cut.{Cost}
use Rattle.theory_costs.specs.Lowest.{Lowest}
use Rattle.theory_costs.specs.Rule.{NodeCost, BareCost, alone, Costs}
use Rattle.packed.specs.Packed.{places_in}
use Rattle.table_layout.specs.Layout.{full_in, alone_in, tables_size}
use Rattle.table_layout.specs.Exact.{Alones}

-- what is known of rule r over the span from i to j: its `alone` costs and its cost without a child over all of it
pub record RuleKnown (fit : Fit) (empty : ℕ → ℕ) (least : Cost) (i j : ℕ) (p : List ℕ) (r : ℕ) (tables : List ℕ) (bare : ℕ) : Type 0 where
  pub span : i < j
  pub start : (k : ℕ) → least k i i ≡ empty k
  pub stop : (k : ℕ) → least k j j ≡ empty k
  pub beside : Alones empty p r tables
  pub without : Lowest (BareCost fit least (places_in p r) i j) bare

-- v is the cost of rule r over any such span, the node included
pub record OfRule (p : List ℕ) (r : ℕ) (full tables : List ℕ) (bare v : ℕ) : Type 0 where
  pub exact : (fit : Fit) (empty : ℕ → ℕ) (least : Cost) (i j : ℕ) → RuleKnown fit empty least i j p r tables bare
      → Lowest (NodeCost fit (full_in full) least (places_in p r) i j) v

-- v is the least of the costs without a child over the whole span and with one at a place before q
pub record PlacesBefore (p : List ℕ) (r : ℕ) (full tables : List ℕ) (bare q v : ℕ) : Type 0 where
  pub lowest : (fit : Fit) (empty : ℕ → ℕ) (least : Cost) (i j : ℕ) → RuleKnown fit empty least i j p r tables bare
      → Lowest (Costs fit empty (full_in full) least (places_in p r) i j q) v

-- the `alone` costs of the places before q of rule r are written; those of other rules are unchanged
pub record AloneBefore (p : List ℕ) (r : ℕ) (empty : List ℕ) (q : ℕ) (tables₀ tables : List ℕ) : Type 0 where
  pub long : length tables ≡ tables_size
  pub here : (n : ℕ) → n < q → alone_in tables r n ≡ alone (full_in empty) (places_in p r) n
  pub other : (s n : ℕ) → s ≢ r → n < max_places → alone_in tables s n ≡ alone_in tables₀ s n

-- the `alone` costs of all places of rule r are written; those of other rules are unchanged
abbrev pub AlonePut : List ℕ → ℕ → List ℕ → List ℕ → List ℕ → Type 0
AlonePut p r empty tables₀ tables = AloneBefore p r empty max_places tables₀ tables

-- the `alone` costs of the rules before r are right
pub record AlonesFilled (p empty : List ℕ) (r : ℕ) (tables : List ℕ) : Type 0 where
  pub long : length tables ≡ tables_size
  pub here : (s n : ℕ) → s < r → n < max_places → alone_in tables s n ≡ alone (full_in empty) (places_in p s) n
