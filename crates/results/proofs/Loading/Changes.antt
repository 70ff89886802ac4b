-- What a command changes in the grammar, by the setters, as the loader stores it. Assumes nothing.
use Prim.Native.Nat.{ℕ, ◌+◌, ◌-◌}
use mathlib.Core.List.{List}
use mathlib.Core.Path.{◌≡◌, refl}
use lib.IntN.{ℤ}
use Rattle.grammar.specs.declared.Symbol.{Symbol}
use Rattle.grammar.specs.declared.Grammar.{Grammar}
use Rattle.grammar.specs.Setters.{opened_rule, placed_rule, set_name, set_start, set_count, set_rule}
use Rattle.results.specs.Load.{open_rule, with_start, with_rule, with_place, with_name}

module _ (g : Grammar) where
  pub start-set : (k : ℕ) → set_start g k ≡ with_start g k
  unfolding with_start
  start-set k = refl

  pub rule-set : (k : ℕ) (z : ℤ) (first last : ℕ)
      → set_count (set_rule g g.count (opened_rule k z first last)) (g.count + 1) ≡ with_rule g k z first last
  unfolding with_rule
  rule-set k z first last = refl

  pub place_set : (s : Symbol) → set_rule g (g.count - 1) (placed_rule (open_rule g) s) ≡ with_place g s
  unfolding with_place
  place_set s = refl

  pub name_set : (name : List ℕ) → set_rule g (g.count - 1) (set_name (open_rule g) name) ≡ with_name g name
  unfolding with_name
  name_set name = refl
