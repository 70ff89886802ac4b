-- One rule at one cell (i, n): what the given words mean, and what is promised of the rule's flags for all sets of which these are true.
-- And when a set is closed under the rules as the set of the cell. Assumes nothing.
use Rattle.std.specs.Prelude.{ℕ, ◌+◌, ◌≤◌, ◌<◌, Bool, true, cond, ◌&&◌, ◌||◌, List, ◌≡◌, eqb, ltb}
use Rattle.sizes.specs.Sizes.{max_rules}
use Rattle.sets.specs.Set.{has, insert}
use Rattle.cfg.specs.Grammar.{Symbol, nonterminal, terminal}
use Rattle.chart.specs.Cell.{Fit, cuts}
use Rattle.packed.specs.Packed.{left_in, places_in}
use Rattle.fill_rule.specs.Flags.{Sets, Cutting, Inner, owned}

-- each member of v is one of w
abbrev pub Within : ℕ → ℕ → Type 0
Within v w = (k : ℕ) → has k v ≡ true → has k w ≡ true

-- ---- one rule

-- whether the places from q on, the first of which holds s, cut the span, by the words of its cell: the set of the empty span at its start,
-- the cell's own set, the places where inner cuts begin, the flags at the span's end, and the flags v of the places after q
abbrev pub place_cuts : Symbol → ℕ → ℕ → ℕ → ℕ → ℕ → ℕ → Bool
place_cuts (terminal t) q empty own inner last v = has q inner
place_cuts (nonterminal k) q empty own inner last v =
    has q inner || ((has k empty && has (q + 1) v) || (has k own && has (q + 1) last))

-- what these words mean
pub record Words (fit : Fit) (sets : Sets) (p : List ℕ) (r i n empty own inner last : ℕ) : Type 0 where
  pub start : sets i i ≡ empty
  pub whole : sets i n ≡ own
  pub inside : Inner fit sets p r i n inner
  pub after : i < n → Cutting fit sets p r n n last
  pub none : n ≤ i → last ≡ 0

-- v has the flags of rule r at each start of which these words are true; ended says whether its span is empty
pub record RuleMask (p : List ℕ) (r : ℕ) (ended : Bool) (empty own inner last v : ℕ) : Type 0 where
  pub exact : (fit : Fit) (sets : Sets) (i n : ℕ) → i ≤ n → ended ≡ eqb i n → Words fit sets p r i n empty own inner last
      → Cutting fit sets p r i n v

-- the set with the left side of rule r in it, if its flags say that all its places cut the span
unfoldable pub added_in : List ℕ → ℕ → ℕ → ℕ → ℕ
added_in p r v own = cond (has 0 v && ltb (left_in p r) 32) (insert (left_in p r) own) own

-- ---- all rules

-- T is closed under the rules as the set of the cell (i, n)
abbrev pub ClosedAt : Fit → Sets → List ℕ → ℕ → ℕ → ℕ → Type 0
ClosedAt fit sets p i n T =
    (r : ℕ) → r < max_rules → left_in p r < 32 → cuts fit (owned sets i n T) (places_in p r) i n ≡ true → has (left_in p r) T ≡ true

-- v has the flags of rule r at the start i if the set of the cell (i, n) is own, and rule r adds nothing to own
pub record RuleSettled (fit : Fit) (sets : Sets) (p : List ℕ) (r i n own v : ℕ) : Type 0 where
  pub exact : Cutting fit (owned sets i n own) p r i n v
  pub closed : left_in p r < 32 → has 0 v ≡ true → has (left_in p r) own ≡ true
