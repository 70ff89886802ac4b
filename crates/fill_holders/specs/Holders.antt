-- Which rules are looked at again when a nonterminal is added to a cell's set, and which can end with a terminal. Assumes nothing.
use Rattle.std.specs.Prelude.{ℕ, ◌+◌, ◌<◌, Bool, true, false, not, ◌&&◌, List, ◌⊎◌, ◌≡◌, length, get_or}
use Rattle.sets.specs.Set.{has}
use Rattle.packed.specs.Packed.{place_count, is_nonterminal_in}
use Rattle.fill_rules.specs.declared.Rules.{Rules}
use Rattle.fill_rules.specs.Rules.{row_size, set_at, has_rule, RulesBelow}

-- rule r is among the holders of each of its kinds, and all that was held is held
pub record HeldOf (r kinds : ℕ) (holders holders' : List ℕ) : Type 0 where
  pub long : length holders' ≡ row_size
  pub keeps : (k x : ℕ) → has_rule x (set_at holders k) ≡ true → has_rule x (set_at holders' k) ≡ true
  pub all : (k : ℕ) → has k kinds ≡ true → has_rule r (set_at holders' k) ≡ true
  pub below : (rules k : ℕ) → r < rules → RulesBelow rules (set_at holders k) → RulesBelow rules (set_at holders' k)

-- each rule below this number is among the holders of each of its kinds, and no other rule is a holder
pub record HeldAll (rules : ℕ) (kinds holders : List ℕ) : Type 0 where
  pub long : length holders ≡ row_size
  pub all : (r k : ℕ) → r < rules → has k (get_or kinds r 0) ≡ true → has_rule r (set_at holders k) ≡ true
  pub below : (k : ℕ) → RulesBelow rules (set_at holders k)

-- place q of rule r holds a terminal after which its places cut the empty span, by its flags at the end
abbrev pub ends_at : List ℕ → ℕ → ℕ → ℕ → Bool
ends_at p r q last = not (is_nonterminal_in p r q) && has (q + 1) last

-- f says whether rule r has a terminal after which its places cut the empty span, by its flags at the end
pub record EndsInTerminal (p : List ℕ) (r last : ℕ) (f : Bool) : Type 0 where
  pub all : (q : ℕ) → q < place_count p r → is_nonterminal_in p r q ≡ false → has (q + 1) last ≡ true → f ≡ true

-- s' is s, with r in it if the test f holds
pub record AddedIf (r : ℕ) (f : Bool) (s s' : Rules) : Type 0 where
  pub here : f ≡ true → has_rule r s' ≡ true
  pub keeps : (x : ℕ) → has_rule x s ≡ true → has_rule x s' ≡ true
  pub only : (x : ℕ) → has_rule x s' ≡ true → (x ≡ r) ⊎ (has_rule x s ≡ true)

-- the set has each such rule below this number, and no rule from it on
pub record EndingRules (p : List ℕ) (rules : ℕ) (lasts : List ℕ) (s : Rules) : Type 0 where
  pub all : (r q : ℕ) → r < rules → q < place_count p r → is_nonterminal_in p r q ≡ false → has (q + 1) (get_or lasts r 0) ≡ true
      → has_rule r s ≡ true
  pub below : RulesBelow rules s
