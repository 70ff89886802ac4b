-- The least cost of the places of a rule from one place on, inside a span from i to j. A child over the whole span costs what the
-- numbers of that span say, any other child what the least table says. Assumes nothing.
use Rattle.std.specs.Prelude.{ℕ, suc, ◌+◌, ◌-◌, ◌≤◌, ◌<◌, Bool, false, List, ◌∷◌, ◌≡◌, get_or}
use Rattle.sizes.specs.Sizes.{side}
use Rattle.cfg.specs.Grammar.{Symbol, nonterminal}
use Rattle.chart.specs.Cell.{Fit}
use Rattle.theory_costs.specs.Cut.{LeastCut, within}
use Rattle.packed.specs.Packed.{place_count, is_nonterminal_in, terminal_in, places_from}
use Rattle.table_layout.specs.Layout.{cost_in, full_in}
use Rattle.table_cut.specs.Suffix.{EndsPassedOver}
use Rattle.table_cut.specs.declared.within.Part.{Part}

-- the symbols of the places of rule r from q on
abbrev pub tail_in : List ℕ → ℕ → ℕ → List Symbol
tail_in p r q = places_from p r q (place_count p r - q)

-- v is the least cost of the places from a to j, inside a span from i to j
abbrev pub InsideCost : Fit → List ℕ → List ℕ → ℕ → ℕ → List Symbol → ℕ → ℕ → Type 0
InsideCost fit tables full i j places a v = LeastCut fit (within i j (full_in full) (cost_in tables)) places a j v

-- the numbers of `rests` from `at` on are those costs, for each start from a to j
abbrev pub RestsInside : Fit → List ℕ → List ℕ → ℕ → ℕ → List Symbol → ℕ → List ℕ → ℕ → Type 0
RestsInside fit tables full i j places a rests at = (c : ℕ) → a ≤ c → c ≤ j
    → InsideCost fit tables full i j places c (get_or rests (at + c) 0)

-- the part begins inside its span, and the ends from `from` on come after its start
abbrev pub Proper : Part → Type 0
Proper part = (part.i ≤ part.a) × (part.a < part.from) × (part.a ≤ part.j) × (part.j < side)

-- v is that cost of the nonterminal k and any places after it whose costs are those given
pub record NonterminalAt (tables full : List ℕ) (k i a from j : ℕ) (rests : List ℕ) (at v : ℕ) : Type 0 where
  pub exact : (fit : Fit) (places : List Symbol) → EndsPassedOver tables a from j rests at
      → RestsInside fit tables full i j places a rests at → InsideCost fit tables full i j (nonterminal k ∷ places) a v

-- v is that cost of the places of rule r from q on; `fits` says whether a terminal at place q fits the byte at a
pub record SuffixAt (p : List ℕ) (r q : ℕ) (fits : Bool) (tables full : List ℕ) (i a from j : ℕ) (rests : List ℕ) (at v : ℕ) : Type 0 where
  pub exact : (fit : Fit) → (is_nonterminal_in p r q ≡ false → a < j → fits ≡ fit a (terminal_in p r q))
      → EndsPassedOver tables a from j rests at → RestsInside fit tables full i j (tail_in p r (suc q)) a rests at
      → InsideCost fit tables full i j (tail_in p r q) a v
