-- What writing a rule changes in a packed grammar. Assumes nothing.
use Rattle.std.specs.Prelude.{ℕ, List, ◌≢◌, ◌≡◌, length}
use Rattle.std.proofs.Math.Option.{Option}
use Rattle.cfg.specs.Grammar.{Rule}
use Rattle.packed.specs.Packed.{rule_in, packed_size}

-- p is p₀ except for the number r, which has the rule σ, or none
pub record RulePacked (σ : Option Rule) (r : ℕ) (p₀ p : List ℕ) : Type 0 where
  pub long : length p ≡ packed_size
  pub here : rule_in p r ≡ σ
  pub other : (s : ℕ) → s ≢ r → rule_in p s ≡ rule_in p₀ s
