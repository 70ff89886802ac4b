-- The members of a word as rules: the number of each is that of its bit, added to a base. Assumes nothing.
use Rattle.std.specs.Prelude.{ℕ, ◌+◌, ◌≤◌, ◌<◌, true, false, List, ◌⊎◌, ◌≡◌, get_or}
use Rattle.sets.specs.Set.{has}
use Rattle.fill_rules.specs.declared.Rules.{Rules}
use Rattle.fill_rules.specs.declared.Listed.{Listed}
use Rattle.fill_rules.specs.Rules.{word_bits, has_rule}
use Rattle.fill_rules.specs.Listing.{ListOf}

-- no member of the word is in the set
abbrev pub Apart : ℕ → ℕ → Rules → Type 0
Apart base word s = (b : ℕ) → b < word_bits → has b word ≡ true → has_rule (base + b) s ≡ false

-- r is a member of the word
abbrev pub InWord : ℕ → ℕ → ℕ → Type 0
InWord base word r = (b : ℕ) × (b < word_bits) × (has b word ≡ true) × (r ≡ base + b)

-- the members of the word were added to what is listed
pub record WordListed (base word : ℕ) (l l' : Listed) (list list' : List ℕ) : Type 0 where
  pub listed : ListOf l' list'
  pub grows : l.count ≤ l'.count
  pub front : (t : ℕ) → t < l.count → get_or list' t 0 ≡ get_or list t 0
  pub keeps : (r : ℕ) → has_rule r l.set ≡ true → has_rule r l'.set ≡ true
  pub added : (b : ℕ) → has b word ≡ true → has_rule (base + b) l'.set ≡ true
  pub only : (r : ℕ) → has_rule r l'.set ≡ true → InWord base word r ⊎ (has_rule r l.set ≡ true)
