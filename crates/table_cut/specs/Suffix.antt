-- The least cost of the places of a rule from one place on, over a span, from the costs of the places after it. Assumes nothing.
use Rattle.std.specs.Prelude.{ℕ, suc, ◌+◌, ◌≤◌, ◌<◌, min, Bool, List, [], ◌∷◌, ◌≡◌, get_or}
use Rattle.sizes.specs.Sizes.{too_many}
use Rattle.cfg.specs.Grammar.{Symbol, nonterminal, terminal, Terminal}
use Rattle.chart.specs.Cell.{Fit}
use Rattle.theory_costs.specs.Lowest.{Lowest, Seen, NoNumber}
use Rattle.theory_costs.specs.Cut.{Cost, LeastCut, First}
use Rattle.table_layout.specs.Layout.{cost_in}

-- each end after a, before `from` and before b, costs too much: 513 or more with the places after it, whose costs are in `rests`
abbrev pub EndsPassedOver : List ℕ → ℕ → ℕ → ℕ → List ℕ → ℕ → Type 0
EndsPassedOver tables a from b rests at = (k c : ℕ) → a < c → c < from → c < b → too_many ≤ cost_in tables k a c + get_or rests (at + c) 0

-- what is known when a nonterminal k is read from a to b: its cost up to each end, `last` for the end b; the costs of the places after it,
-- which are in `rests` from `at` on; and that the ends which are not read cost too much
pub record Behind (fit : Fit) (cost : Cost) (k : ℕ) (places : List Symbol) (a from b : ℕ) (tables : List ℕ) (last : ℕ) (rests : List ℕ)
    (at : ℕ) : Type 0 where
  pub first : (c : ℕ) → a ≤ c → c < b → cost_in tables k a c ≡ cost k a c
  pub whole : last ≡ cost k a b
  pub later : (c : ℕ) → a ≤ c → c ≤ b → LeastCut fit cost places c b (get_or rests (at + c) 0)
  pub passed : EndsPassedOver tables a from b rests at

-- v is the least cost of the nonterminal k and any places after it whose costs are those given
pub record AtNonterminal (tables : List ℕ) (k a from b last : ℕ) (rests : List ℕ) (at v : ℕ) : Type 0 where
  pub exact : (fit : Fit) (cost : Cost) (places : List Symbol) → Behind fit cost k places a from b tables last rests at
      → LeastCut fit cost (nonterminal k ∷ places) a b v

-- v is the cost with the end a, if a is before b
pub record AtStart (tables : List ℕ) (k a b : ℕ) (rests : List ℕ) (at v : ℕ) : Type 0 where
  pub capped : v ≤ too_many
  pub before : a < b → v ≡ min (cost_in tables k a a + get_or rests (at + a) 0) too_many
  pub none : b ≤ a → v ≡ too_many

-- v is the least cost over the ends before c and before b
pub record EndsBefore (tables : List ℕ) (k a from b last : ℕ) (rests : List ℕ) (at c v : ℕ) : Type 0 where
  pub lowest : (fit : Fit) (cost : Cost) (places : List Symbol) → Behind fit cost k places a from b tables last rests at
      → Lowest (Seen NoNumber (First fit cost k places a b) a (min c b)) v

-- v is the least cost of a terminal and any places after it whose cost is given; `fits` says whether the terminal fits the byte at a
pub record AtTerminal (fits : Bool) (a b : ℕ) (rests : List ℕ) (at v : ℕ) : Type 0 where
  pub exact : (fit : Fit) (cost : Cost) (t : Terminal) (places : List Symbol) → (a < b → fits ≡ fit a t)
      → (a < b → LeastCut fit cost places (suc a) b (get_or rests (at + suc a) 0)) → LeastCut fit cost (terminal t ∷ places) a b v

-- v is the least cost of no places
pub record AtEnd (a b v : ℕ) : Type 0 where
  pub exact : (fit : Fit) (cost : Cost) → LeastCut fit cost [] a b v
