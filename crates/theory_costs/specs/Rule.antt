-- What a node costs over a span, from its rule's places and from numbers alone: either no child covers the whole span, or one does and all
-- others are empty. Assumes nothing.
use Rattle.std.specs.Prelude.{ℕ, zero, suc, ◌+◌, min, List, [], ◌∷◌, ◌≡◌}
use Rattle.std.proofs.Math.Option.{some}
use Rattle.std.proofs.Math.ListN.{get_elem?}
use Rattle.sizes.specs.Sizes.{too_many}
use Rattle.cfg.specs.Grammar.{Symbol, nonterminal, terminal}
use Rattle.chart.specs.Cell.{Fit}
use Rattle.theory_costs.specs.Lowest.{Seen}
use Rattle.theory_costs.specs.Cut.{Cost, Cut, within}

-- the costs of a node whose rule has these places, over the span from i to j, the node included
pub record NodeCost (fit : Fit) (full : ℕ → ℕ) (least : Cost) (places : List Symbol) (i j u : ℕ) : Type 0 where
  pub under : ℕ
  pub cut : Cut fit (within i j full least) j places i under
  pub sum : u ≡ suc under

-- the costs of those without a child over the whole span: such a child counts as too many nodes
abbrev pub BareCost : Fit → Cost → List Symbol → ℕ → ℕ → ℕ → Type 0
BareCost fit least places i j = NodeCost fit (λ _. too_many) least places i j

-- the cost of a symbol over no byte: `cost` has those of the nonterminals, and a terminal always covers a byte
unfoldable pub single : (ℕ → ℕ) → Symbol → ℕ
single cost (nonterminal k) = cost k
single cost (terminal t) = too_many

-- the cost of these places over no byte
unfoldable pub together : (ℕ → ℕ) → List Symbol → ℕ
together cost [] = 0
together cost (s ∷ places) = single cost s + together cost places

-- the cost of all places but q over no byte; too many if q is no place of a nonterminal
unfoldable pub others : (ℕ → ℕ) → List Symbol → ℕ → ℕ
others cost [] q = too_many
others cost (nonterminal k ∷ places) zero = together cost places
others cost (terminal t ∷ places) zero = too_many
others cost (s ∷ places) (suc q) = single cost s + others cost places q

-- what a node costs in addition to its child at place q, if that child covers the whole span
unfoldable pub alone : (ℕ → ℕ) → List Symbol → ℕ → ℕ
alone empty places q = min (suc (others empty places q)) too_many

-- the cost of a node whose child at place q covers the whole span
pub record Through (empty full : ℕ → ℕ) (places : List Symbol) (q u : ℕ) : Type 0 where
  pub child : ℕ
  pub place : get_elem? places q ≡ some (nonterminal child)
  pub sum : u ≡ alone empty places q + full child

-- the costs that a loop over the places has compared when m is its next place
abbrev pub Costs : Fit → (ℕ → ℕ) → (ℕ → ℕ) → Cost → List Symbol → ℕ → ℕ → ℕ → ℕ → Type 0
Costs fit empty full least places i j m = Seen (BareCost fit least places i j) (Through empty full places) 0 m
