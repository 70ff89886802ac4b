-- Which rules can end with a terminal: what each place and each rule gives. Assumes nothing.
use Prim.Native.Nat.{ℕ, ◌+◌, ◌<◌}
use mathlib.Core.Bool.{Bool, true, false, not, ◌&&◌}
use mathlib.Core.List.{List}
use mathlib.Core.Logic.{inr}
use mathlib.Core.Path.{◌≡◌, sym, ap, ◌∙◌}
use Rattle.laws.proofs.Bools.{true-false}
use Rattle.sets.specs.Set.{has}
use Rattle.packed.specs.Packed.{is_nonterminal_in}
use Rattle.fill_rules.specs.declared.Rules.{Rules}
use Rattle.fill_holders.specs.Holders.{ends_at, AddedIf}

-- ---- one place

module _ (p : List ℕ) (r q last : ℕ) (n : Bool) (is : n ≡ is_nonterminal_in p r q) where
  pub at-nonterminal : n ≡ true → false ≡ ends_at p r q last
  at-nonterminal h = ap (λ (x : Bool). not x && has (q + 1) last) (sym h ∙ is)

  pub at-terminal : (f : Bool) → n ≡ false → f ≡ has (q + 1) last → f ≡ ends_at p r q last
  at-terminal f h e = e ∙ ap (λ (x : Bool). not x && has (q + 1) last) (sym h ∙ is)

-- ---- the places of a rule

module _ (p : List ℕ) (r last : ℕ) where
  -- none of the places below q is such a place
  abbrev pub NoneTo : ℕ → Type 0
  NoneTo q = (k : ℕ) → k < q → ends_at p r k last ≡ false

-- ---- a rule is added if the test holds

pub if-same : (r : ℕ) (f : Bool) (s : Rules) → f ≡ false → AddedIf r f s s
if-same r f s e = record { here = λ h. absurd (true-false h e); keeps = λ x h. h; only = λ x h. inr h }
