-- The members of a set of rules as a list. Assumes nothing.
use Rattle.std.specs.Prelude.{ℕ, ◌≤◌, ◌<◌, true, List, ◌⊎◌, ◌≡◌, length, get_or}
use Rattle.sizes.specs.Sizes.{max_rules}
use Rattle.fill_rules.specs.declared.Rules.{Rules}
use Rattle.fill_rules.specs.declared.Listed.{Listed}
use Rattle.fill_rules.specs.Rules.{has_rule, size_of}

-- the first n numbers of the list are rules
pub record RuleNumbers (n : ℕ) (list : List ℕ) : Type 0 where
  pub long : length list ≡ max_rules
  pub few : n ≤ max_rules
  pub below : (t : ℕ) → t < n → get_or list t 0 < max_rules

-- r is one of the first n numbers of the list
abbrev pub In : ℕ → ℕ → List ℕ → Type 0
In r n list = (t : ℕ) × (t < n) × (get_or list t 0 ≡ r)

-- the first numbers of the list are the members of the set
pub record ListOf (l : Listed) (list : List ℕ) : Type 0 where
  pub numbers : RuleNumbers l.count list
  pub room : l.count ≤ size_of l.set
  pub member : (r : ℕ) → In r l.count list → has_rule r l.set ≡ true
  pub all : (r : ℕ) → has_rule r l.set ≡ true → In r l.count list

-- the members of s were added to what is listed
pub record ListedToo (s : Rules) (l l' : Listed) (list list' : List ℕ) : Type 0 where
  pub listed : ListOf l' list'
  pub grows : l.count ≤ l'.count
  pub front : (t : ℕ) → t < l.count → get_or list' t 0 ≡ get_or list t 0
  pub keeps : (r : ℕ) → has_rule r l.set ≡ true → has_rule r l'.set ≡ true
  pub added : (r : ℕ) → has_rule r s ≡ true → has_rule r l'.set ≡ true
  pub only : (r : ℕ) → has_rule r l'.set ≡ true → (has_rule r s ≡ true) ⊎ (has_rule r l.set ≡ true)

-- the members of s are listed, and no other rule is
pub record Relisted (s : Rules) (l : Listed) (list : List ℕ) : Type 0 where
  pub listed : ListOf l list
  pub all : (r : ℕ) → has_rule r s ≡ true → has_rule r l.set ≡ true
  pub only : (r : ℕ) → has_rule r l.set ≡ true → has_rule r s ≡ true
