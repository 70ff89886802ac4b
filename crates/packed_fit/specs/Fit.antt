-- The fit table of a packed grammar and an input: for each position and rule one byte, whose bit q says whether place q of the rule is a
-- terminal that fits the byte at the position. Assumes nothing.
use Rattle.std.specs.Prelude.{ℕ, ◌+◌, ◌*◌, ◌≤◌, ◌<◌, Bool, false, List, ◌≡◌, length, get_or}
use Rattle.sizes.specs.Sizes.{max_input, max_rules}
use Rattle.sets.specs.Set.{has}
use Rattle.chart.specs.Cell.{Fit}
use Rattle.packed.specs.Packed.{place_count, is_nonterminal_in, terminal_in, symbol_in, fits_place}

-- the bytes of a fit table
abbrev pub fit_size : ℕ
fit_size = max_input * max_rules

-- the byte for position i and rule r
abbrev pub entry_in : List ℕ → ℕ → ℕ → ℕ
entry_in t i r = get_or t (max_rules * i + r) 0

-- whether place q of rule r fits position i, by the table
unfoldable pub fit_in : List ℕ → ℕ → ℕ → ℕ → Bool
fit_in t i r q = has q (entry_in t i r)

-- t says for each position, rule and place of the rule whether the place fits the position
pub record Told (p w t : List ℕ) : Type 0 where
  pub long : length t ≡ fit_size
  pub exact : (i r q : ℕ) → i < max_input → r < max_rules → q < place_count p r → fit_in t i r q ≡ fits_place w (symbol_in p r q) i

-- t says for the positions before n which terminals of the rules fit them
abbrev pub FitTold : Fit → List ℕ → List ℕ → ℕ → Type 0
FitTold fit p t n =
    (i r q : ℕ) → i < n → r < max_rules → q < place_count p r → is_nonterminal_in p r q ≡ false
    → has q (entry_in t i r) ≡ fit i (terminal_in p r q)

-- ---- while the table is written

-- m is how many of n positions the table has: all, but at most 64
pub record Positions (n m : ℕ) : Type 0 where
  pub small : m ≤ max_input
  pub all : (i : ℕ) → i < max_input → m ≤ i → n ≤ i

-- a condition on a position, a rule and a place
abbrev pub Asked : Type 1
Asked = ℕ → ℕ → ℕ → Type 0

-- where asked, t' says whether they fit if t said that they do not; elsewhere t' is as t
pub record FitPut (p w : List ℕ) (asked : Asked) (t t' : List ℕ) : Type 0 where
  pub long : length t' ≡ fit_size
  pub here : (i r q : ℕ) → i < max_input → r < max_rules → asked i r q → fit_in t i r q ≡ false
      → fit_in t' i r q ≡ fits_place w (symbol_in p r q) i
  pub other : (i r q : ℕ) → i < max_input → r < max_rules → (asked i r q → ⊥) → fit_in t' i r q ≡ fit_in t i r q

-- place q of rule r at position i
abbrev pub At : ℕ → ℕ → ℕ → Asked
At i r q a s j = (a ≡ i) × (s ≡ r) × (j ≡ q)

-- place q of rule r at the positions before n
abbrev pub AtPlace : ℕ → ℕ → ℕ → Asked
AtPlace n r q i s j = (i < n) × (s ≡ r) × (j ≡ q)

-- the places of rule r below q at these positions
abbrev pub AtRule : ℕ → ℕ → ℕ → Asked
AtRule n r q i s j = (i < n) × (s ≡ r) × (j < q)
