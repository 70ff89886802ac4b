-- Sets of rules: what membership means, and what is promised of sets that are made from others. Assumes nothing.
use Rattle.std.specs.Prelude.{ℕ, ◌+◌, ◌*◌, ◌-◌, ◌<◌, Bool, true, false, cond, List, ◌⊎◌, ◌≢◌, ◌≡◌, ltb, length, get_or}
use Rattle.sizes.specs.Sizes.{max_input}
use Rattle.sets.specs.Set.{has, count_below}
use Rattle.fill_rules.specs.declared.Rules.{Rules}

-- how many rules a word has
abbrev pub word_bits : ℕ
word_bits = 64

-- rule r is in the set of these two words
unfoldable pub in_words : ℕ → ℕ → ℕ → Bool
in_words r low high = cond (ltb r word_bits) (has r low) (has (r - word_bits) high)

-- rule r is in the set
abbrev pub has_rule : ℕ → Rules → Bool
has_rule r s = in_words r s.low s.high

-- how many members the set has
abbrev pub size_of : Rules → ℕ
size_of s = count_below word_bits s.low + count_below word_bits s.high

-- the set has no member
abbrev pub NoRule : Rules → Type 0
NoRule s = (r : ℕ) → has_rule r s ≡ false

-- f says that the two sets are the same
abbrev pub SameRules : Rules → Rules → Bool → Type 0
SameRules s t f = f ≡ true → (r : ℕ) → has_rule r s ≡ has_rule r t

-- s' is s with r in it
pub record RuleAdded (r : ℕ) (s s' : Rules) : Type 0 where
  pub here : has_rule r s' ≡ true
  pub keeps : (x : ℕ) → has_rule x s ≡ true → has_rule x s' ≡ true
  pub only : (x : ℕ) → has_rule x s' ≡ true → (x ≡ r) ⊎ (has_rule x s ≡ true)

-- u has what is in s or t
pub record RulesJoined (s t u : Rules) : Type 0 where
  pub left : (x : ℕ) → has_rule x s ≡ true → has_rule x u ≡ true
  pub right : (x : ℕ) → has_rule x t ≡ true → has_rule x u ≡ true
  pub only : (x : ℕ) → has_rule x u ≡ true → (has_rule x s ≡ true) ⊎ (has_rule x t ≡ true)

-- each member is below this number
abbrev pub RulesBelow : ℕ → Rules → Type 0
RulesBelow rules s = (r : ℕ) → has_rule r s ≡ true → r < rules

-- ---- rows of sets

-- the words of a row of sets: two for each start, or for each nonterminal
abbrev pub row_size : ℕ
row_size = 2 * max_input

-- set i of a row
abbrev pub set_at : List ℕ → ℕ → Rules
set_at row i = record { low = get_or row (2 * i) 0; high = get_or row (2 * i + 1) 0 }

-- s was put as set i of the row
pub record SetPut (i : ℕ) (s : Rules) (row row' : List ℕ) : Type 0 where
  pub long : length row' ≡ row_size
  pub here : set_at row' i ≡ s
  pub other : (j : ℕ) → j ≢ i → set_at row' j ≡ set_at row j
