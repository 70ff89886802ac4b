-- When numbers for one span are right: each is reached by a tree, and no rule gives a lower one. Assumes nothing.
use Rattle.std.specs.Prelude.{ℕ, ◌-◌, ◌≤◌, ◌<◌, false, List, [], ◌∷◌, ◌≡◌}
use Rattle.sizes.specs.Sizes.{too_many}
use Rattle.sets.specs.Set.{has}
use Rattle.cfg.specs.Grammar.{Cfg, Symbol, nonterminal, Of}
use Rattle.cfg.specs.Tree.{Forest, nodes}
use Rattle.cfg.specs.Derivation.{Superfluous}
use Rattle.chart.specs.Cell.{Fit}
use Rattle.theory_costs.specs.Cut.{Cost}
use Rattle.theory_costs.specs.Span.{FreeRow, FreeTree}
use Rattle.theory_costs.specs.Rule.{NodeCost}

-- v is reached: some tree of k over the span from i to j has at most v nodes, and no nonterminal of M over the whole span
pub record SoundAt (G : Cfg) (bytes : ℕ → ℕ → Type 0) (M i j k v : ℕ) : Type 0 where
  pub reached : v < too_many → (t : Forest) × FreeTree G bytes M (j - i) k i j t × (nodes t ≤ v)

-- each number is reached
abbrev pub Sound : Cfg → (ℕ → ℕ → Type 0) → ℕ → ℕ → ℕ → (ℕ → ℕ) → Type 0
Sound G bytes M i j full = (k : ℕ) → SoundAt G bytes M i j k (full k)

-- no rule gives a lower number
pub record Stable (G : Cfg) (fit : Fit) (M i j : ℕ) (full : ℕ → ℕ) (least : Cost) : Type 0 where
  pub capped : (k : ℕ) → full k ≤ too_many
  pub settled : (r k : ℕ) → (o : Of G r k) → has k M ≡ false → (u : ℕ) → NodeCost fit full least o.the.places i j u → full k ≤ u

-- a forest, and a tree, inside a span of n bytes, without a nonterminal of M over n bytes and without superfluous recursion
abbrev pub PlainRow : Cfg → (ℕ → ℕ → Type 0) → ℕ → ℕ → List Symbol → ℕ → ℕ → Forest → Type 0
PlainRow G bytes M n places a b f = FreeRow G bytes M n places a b f × (¬ Superfluous G f)

abbrev pub PlainTree : Cfg → (ℕ → ℕ → Type 0) → ℕ → ℕ → ℕ → ℕ → ℕ → Forest → Type 0
PlainTree G bytes M n k a b t = PlainRow G bytes M n (nonterminal k ∷ []) a b t
