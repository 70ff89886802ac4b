-- Forests over a span of positions. `bytes a m` says that the byte m is possible at position a. For one input that is its byte there, and
-- the forests are those of the input. If several bytes are possible at a position, the forests are those of all inputs that fit. Leaves
-- hold bytes in both cases, so fitting, superfluous recursion and codes are those of the grammar. Assumes nothing.
use Rattle.std.specs.Prelude.{ℕ, suc, ◌-◌, ◌≤◌, ◌<◌, true, List, [], ◌∷◌, ◌↔◌, ◌≡◌, length, get_or}
use Rattle.sets.specs.Set.{has}
use Rattle.cfg.specs.Grammar.{Cfg, Symbol, nonterminal, Terminal, fits}
use Rattle.cfg.specs.Tree.{Forest, yield, nodes, Fits}
use Rattle.cfg.specs.Derivation.{Has}
use Rattle.chart.specs.Cell.{Fit}
use Rattle.theory_costs.specs.Lowest.{Lowest}
use Rattle.theory_costs.specs.Cut.{Cost}

-- the bytes of one input
abbrev pub bytes_of : List ℕ → ℕ → ℕ → Type 0
bytes_of w a m = (a < length w) × (m ≡ get_or w a 0)

-- `fit` says which terminals fit some byte that is possible at the position
abbrev pub Tells : Fit → (ℕ → ℕ → Type 0) → Type 0
Tells fit bytes = (a : ℕ) (t : Terminal) → (fit a t ≡ true) ↔ ((m : ℕ) × bytes a m × (fits t m ≡ true))

-- the bytes of the list are possible from a to b
pub data Reads (bytes : ℕ → ℕ → Type 0) (b : ℕ) : ℕ → List ℕ → Type 0 where
  reads_end : {a : ℕ} → a ≡ b → Reads bytes b a []
  reads_byte : {a m : ℕ} {u : List ℕ} → bytes a m → Reads bytes b (suc a) u → Reads bytes b a (m ∷ u)

-- no node over n bytes is of a nonterminal of the set M
pub record FreeOver (G : Cfg) (M n : ℕ) (f : Forest) : Type 0 where
  pub none : (k : ℕ) → has k M ≡ true → Has G k n f → ⊥

-- a forest for these places over the span from a to b
pub record RowOver (G : Cfg) (bytes : ℕ → ℕ → Type 0) (places : List Symbol) (a b : ℕ) (f : Forest) : Type 0 where
  pub fitted : Fits G places f
  pub reads : Reads bytes b a (yield f)

-- a parse tree of the nonterminal k over the span from a to b
abbrev pub TreeOver : Cfg → (ℕ → ℕ → Type 0) → ℕ → ℕ → ℕ → Forest → Type 0
TreeOver G bytes k a b t = RowOver G bytes (nonterminal k ∷ []) a b t

-- the same for a forest and a tree inside a span of n bytes, without a nonterminal of M over n bytes
abbrev pub FreeRow : Cfg → (ℕ → ℕ → Type 0) → ℕ → ℕ → List Symbol → ℕ → ℕ → Forest → Type 0
FreeRow G bytes M n places a b f = RowOver G bytes places a b f × FreeOver G M n f

abbrev pub FreeTree : Cfg → (ℕ → ℕ → Type 0) → ℕ → ℕ → ℕ → ℕ → ℕ → Forest → Type 0
FreeTree G bytes M n k a b t = FreeRow G bytes M n (nonterminal k ∷ []) a b t

-- v is the least number of nodes of a forest of P, or `too_many` if none has fewer
abbrev pub Least : (Forest → Type 0) → ℕ → Type 0
Least P v = Lowest (λ (n : ℕ). (f : Forest) × P f × (nodes f ≡ n)) v

-- `least` has the least numbers of nodes over every span inside i to j except the whole
pub record Inside (G : Cfg) (bytes : ℕ → ℕ → Type 0) (i j : ℕ) (least : Cost) : Type 0 where
  pub at : (k a b : ℕ) → i ≤ a → a ≤ b → b ≤ j → b - a < j - i → Least (TreeOver G bytes k a b) (least k a b)

-- `full` has the least numbers of nodes over the whole of i to j, without a nonterminal of M over the whole
pub record Full (G : Cfg) (bytes : ℕ → ℕ → Type 0) (M i j : ℕ) (full : ℕ → ℕ) : Type 0 where
  pub at : (k : ℕ) → Least (FreeTree G bytes M (j - i) k i j) (full k)
