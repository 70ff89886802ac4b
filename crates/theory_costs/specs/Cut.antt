-- What it costs to cut a span into pieces for the places of a rule: numbers only, no trees. Assumes nothing.
use Rattle.std.specs.Prelude.{ℕ, suc, ◌+◌, ◌≤◌, ◌<◌, true, false, ◌&&◌, List, [], ◌∷◌, ◌≡◌, eqb}
use Rattle.cfg.specs.Grammar.{Symbol, nonterminal, terminal, Terminal}
use Rattle.chart.specs.Cell.{Fit}
use Rattle.theory_costs.specs.Lowest.{Lowest}

-- the cost of a nonterminal over a span
abbrev pub Cost : Type 0
Cost = ℕ → ℕ → ℕ → ℕ

-- the places cut the span from a to b at total cost v: a terminal takes one position that fits it and costs nothing; a nonterminal k from
-- a to c costs `cost k a c`. A cost of `too_many` makes the total too many, so it needs no rule of its own
pub data Cut (fit : Fit) (cost : Cost) (b : ℕ) : List Symbol → ℕ → ℕ → Type 0 where
  cut_end : {a : ℕ} → a ≡ b → Cut fit cost b [] a 0
  cut_leaf : {t : Terminal} {places : List Symbol} {a v : ℕ}
      → a < b → fit a t ≡ true → Cut fit cost b places (suc a) v → Cut fit cost b (terminal t ∷ places) a v
  cut_node : {k : ℕ} {places : List Symbol} {a u v : ℕ} (c : ℕ)
      → a ≤ c → c ≤ b → Cut fit cost b places c v → u ≡ cost k a c + v → Cut fit cost b (nonterminal k ∷ places) a u

-- the costs of the cuts whose first piece is the nonterminal k from a to c
pub record First (fit : Fit) (cost : Cost) (k : ℕ) (places : List Symbol) (a b c u : ℕ) : Type 0 where
  pub later : ℕ
  pub cut : Cut fit cost b places c later
  pub sum : u ≡ cost k a c + later

-- v is the least cost of the places over the span from a to b
abbrev pub LeastCut : Fit → Cost → List Symbol → ℕ → ℕ → ℕ → Type 0
LeastCut fit cost places a b v = Lowest (Cut fit cost b places a) v

-- the cost of a nonterminal over a span inside i to j: `full` over the whole of it, `least` over any other
unfoldable pub within : ℕ → ℕ → (ℕ → ℕ) → Cost → Cost
within i j full least k a b = elim (eqb a i && eqb b j) [ true ↦ full k | false ↦ least k a b ]
