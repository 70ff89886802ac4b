-- The rules at one cell (i, n) with i < n. Each is looked at again only if its flags can have changed. What the given words mean, and what
-- is promised of the set and of the flags, for all cells and sets of which the words are true. Assumes nothing.
use Rattle.std.specs.Prelude.{ℕ, ◌^◌, ◌≤◌, ◌<◌, true, List, ◌≢◌, ◌≡◌, length, get_or}
use Rattle.sizes.specs.Sizes.{max_rules}
use Rattle.sets.specs.Set.{has}
use Rattle.chart.specs.Cell.{Fit}
use Rattle.packed.specs.Packed.{left_in}
use Rattle.fill_rule.specs.Flags.{Sets, Cutting, Inner, owned}
use Rattle.fill_rule.specs.Passes.{Within, ClosedAt, RuleSettled, added_in}
use Rattle.fill_empty.specs.Empty.{Kinds}

-- what is known of rule r before it is looked at
pub record RuleGiven (fit : Fit) (sets : Sets) (p : List ℕ) (r i n start inside last kinds : ℕ) : Type 0 where
  pub empty : sets i i ≡ start
  pub begins : Inner fit sets p r i n inside
  pub after : Cutting fit sets p r n n last
  pub depends : Kinds p r last kinds

-- the set x has the same of the kinds as made
abbrev pub Agrees : ℕ → ℕ → ℕ → Type 0
Agrees kinds made x = (x < 2 ^ 32) × ((k : ℕ) → has k kinds ≡ true → has k x ≡ has k made)

-- v has the flags of rule r at the start i for each set of the cell that agrees with made
abbrev pub ExactFlags : Fit → Sets → List ℕ → ℕ → ℕ → ℕ → ℕ → ℕ → ℕ → Type 0
ExactFlags fit sets p r i n kinds made v = (x : ℕ) → Agrees kinds made x → Cutting fit (owned sets i n x) p r i n v

-- the same at each cell of which the words are true
abbrev pub Right : List ℕ → ℕ → ℕ → ℕ → ℕ → ℕ → ℕ → ℕ → Type 0
Right p r start inside last kinds made v =
    (fit : Fit) (sets : Sets) (i n : ℕ) → i < n → RuleGiven fit sets p r i n start inside last kinds
    → ExactFlags fit sets p r i n kinds made v

-- rule r was looked at, or need not be, when the cell's set was own; own' is the set after its left side was added
pub record RuleLooked (p : List ℕ) (r start inside last kinds own : ℕ) (flags made flags' made' : List ℕ) (own' : ℕ) : Type 0 where
  pub long : length flags' ≡ max_rules
  pub made_long : length made' ≡ max_rules
  pub other : (s : ℕ) → s ≢ r → get_or flags' s 0 ≡ get_or flags s 0
  pub made_other : (s : ℕ) → s ≢ r → get_or made' s 0 ≡ get_or made s 0
  pub result : own' ≡ added_in p r (get_or flags' r 0) own
  pub agrees : Agrees kinds (get_or made' r 0) own
  pub exact : Right p r start inside last kinds (get_or made' r 0) (get_or flags' r 0)

-- the same, if the flags stored before are right and add nothing
pub record Again (p : List ℕ) (r start inside last kinds own : ℕ) (flags made flags' made' : List ℕ) (own' : ℕ) : Type 0 where
  pub put : Right p r start inside last kinds (get_or made r 0) (get_or flags r 0)
      → (left_in p r < 32 → has 0 (get_or flags r 0) ≡ true → has (left_in p r) own ≡ true)
      → RuleLooked p r start inside last kinds own flags made flags' made' own'

-- ---- all rules

-- what is known of the rules below this number
abbrev pub Givens : Fit → Sets → List ℕ → ℕ → ℕ → ℕ → ℕ → List ℕ → List ℕ → List ℕ → Type 0
Givens fit sets p rules i n start insides lasts kinds =
    (r : ℕ) → r < rules → RuleGiven fit sets p r i n start (get_or insides r 0) (get_or lasts r 0) (get_or kinds r 0)

-- own has nothing that a closed set lacks
abbrev pub SoundSet : List ℕ → ℕ → ℕ → List ℕ → List ℕ → List ℕ → ℕ → Type 0
SoundSet p rules start insides lasts kinds own =
    (fit : Fit) (sets : Sets) (i n : ℕ) → i < n → Givens fit sets p rules i n start insides lasts kinds
    → (T : ℕ) → ClosedAt fit sets p i n T → Within own T

-- the rules below m were looked at
pub record PassState (p : List ℕ) (rules start : ℕ) (insides lasts kinds : List ℕ) (m own : ℕ) (flags made : List ℕ) : Type 0 where
  pub long : length flags ≡ max_rules
  pub made_long : length made ≡ max_rules
  pub exact : (r : ℕ) → r < m
      → Right p r start (get_or insides r 0) (get_or lasts r 0) (get_or kinds r 0) (get_or made r 0) (get_or flags r 0)
  pub closed : (r : ℕ) → r < m → left_in p r < 32 → has 0 (get_or flags r 0) ≡ true → has (left_in p r) own ≡ true
  pub sound : SoundSet p rules start insides lasts kinds own

-- the rules were looked at again, and own became v; if nothing was added, all flags agree with v
pub record PassMade (p : List ℕ) (rules start : ℕ) (insides lasts kinds : List ℕ) (m own v : ℕ) (flags made : List ℕ) : Type 0 where
  pub state : PassState p rules start insides lasts kinds rules v flags made
  pub grows : own ≤ v
  pub fresh : v ≡ own → (r : ℕ) → r < m → Agrees (get_or kinds r 0) (get_or made r 0) v

-- v is the least closed set, and the flags are those of v
pub record LeastClosed (p : List ℕ) (rules start : ℕ) (insides lasts kinds : List ℕ) (v : ℕ) (flags made : List ℕ) : Type 0 where
  pub long : length flags ≡ max_rules
  pub made_long : length made ≡ max_rules
  pub sound : SoundSet p rules start insides lasts kinds v
  pub settled : (fit : Fit) (sets : Sets) (i n : ℕ) → i < n → Givens fit sets p rules i n start insides lasts kinds
      → (r : ℕ) → r < rules → RuleSettled fit sets p r i n v (get_or flags r 0)
