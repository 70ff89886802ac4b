-- Writing a rule only if it is in force: else its row stays, and has no rule. Assumes nothing.
use Prim.Native.Nat.{ℕ}
use mathlib.Core.Bool.{Bool, true, false}
use mathlib.Core.List.{List}
use mathlib.Core.Option.{none}
use mathlib.Core.Path.{◌≡◌, refl}
use lib.ListN.{length}
use Rattle.grammar.specs.declared.Rule.{Rule}
use Rattle.grammar.specs.View.{rule_of, in_force, rule_in_year}
use Rattle.packed.specs.Packed.{rule_in, packed_size}
use Rattle.packed_make.specs.Place.{RulePacked}

-- b is what the test of the years says
module _ (ρ : Rule) (y r : ℕ) (b : Bool) (told : b ≡ in_force y ρ) (p : List ℕ) where
  pub packed-in-force : b ≡ true → (p' : List ℕ) → RulePacked (rule_of ρ) r p p' → RulePacked (rule_in_year y ρ) r p p'
  packed-in-force h p' put = rw (← told, h) put

  pub packed-stays : b ≡ false → length p ≡ packed_size → rule_in p r ≡ none → RulePacked (rule_in_year y ρ) r p p
  packed-stays h long free = rw (← told, h) (record { long = long; here = free; other = λ s d. refl })
