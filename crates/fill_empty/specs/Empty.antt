-- The empty span at the end n of a column: its set and the flags of the rules at it, for every n, whatever fits and whatever the sets of
-- the other spans are. And on which part of a cell's set a rule's flags depend. Assumes nothing.
use Rattle.std.specs.Prelude.{ℕ, ◌+◌, ◌≤◌, ◌<◌, true, List, ◌≡◌, length, get_or}
use Rattle.sizes.specs.Sizes.{max_rules}
use Rattle.sets.specs.Set.{has}
use Rattle.cfg.specs.Grammar.{nonterminal}
use Rattle.chart.specs.Cell.{Fit}
use Rattle.packed.specs.Packed.{place_count, symbol_in}
use Rattle.fill_rule.specs.Flags.{Sets}
use Rattle.fill_rule.specs.Passes.{Within, ClosedAt, RuleSettled}

-- ---- the set and the flags

-- the rules below m were looked at, and own became v
pub record EmptyPassed (p : List ℕ) (m own v : ℕ) (lasts : List ℕ) : Type 0 where
  pub long : length lasts ≡ max_rules
  pub grows : own ≤ v
  pub sound : (fit : Fit) (sets : Sets) (n T : ℕ) → ClosedAt fit sets p n n T → Within own T → Within v T
  pub settled : v ≡ own → (fit : Fit) (sets : Sets) (n r : ℕ) → r < m → RuleSettled fit sets p r n n v (get_or lasts r 0)

-- v is the least closed set, and the words are its flags
pub record EmptyClosed (p : List ℕ) (rules v : ℕ) (lasts : List ℕ) : Type 0 where
  pub long : length lasts ≡ max_rules
  pub sound : (fit : Fit) (sets : Sets) (n T : ℕ) → ClosedAt fit sets p n n T → Within v T
  pub settled : (fit : Fit) (sets : Sets) (n r : ℕ) → r < rules → RuleSettled fit sets p r n n v (get_or lasts r 0)

-- ---- the kinds of the rules

-- kinds has each nonterminal in a place of rule r after which the places cut the empty span; last has the flags at the end
pub record Kinds (p : List ℕ) (r last kinds : ℕ) : Type 0 where
  pub all : (q k : ℕ) → q < place_count p r → symbol_in p r q ≡ nonterminal k → k < 32 → has (q + 1) last ≡ true → has k kinds ≡ true

-- v' has what v has, and the nonterminal in place q of rule r if the places after it cut the empty span
pub record KindAt (p : List ℕ) (r q last v v' : ℕ) : Type 0 where
  pub keeps : (k : ℕ) → has k v ≡ true → has k v' ≡ true
  pub here : (k : ℕ) → symbol_in p r q ≡ nonterminal k → k < 32 → has (q + 1) last ≡ true → has k v' ≡ true

-- the kinds of the rules below this number
pub record KindsAll (p : List ℕ) (rules : ℕ) (lasts kinds : List ℕ) : Type 0 where
  pub long : length kinds ≡ max_rules
  pub each : (r : ℕ) → r < rules → Kinds p r (get_or lasts r 0) (get_or kinds r 0)

-- ---- both

-- what is the same for every column
pub record EmptyTold (p : List ℕ) (rules own : ℕ) (lasts kinds : List ℕ) : Type 0 where
  pub closed : EmptyClosed p rules own lasts
  pub depends : KindsAll p rules lasts kinds
