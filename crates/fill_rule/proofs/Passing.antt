-- Adding the left side of a rule to the set of a cell. Assumes nothing.
use Prim.Native.Nat.{ℕ, ◌≤◌, ◌<◌}
use mathlib.Core.Bool.{Bool, true, false, cond, ◌&&◌}
use mathlib.Core.List.{List}
use mathlib.Core.Logic.{dite}
use mathlib.Core.Path.{◌≡◌, refl, sym, ap, ◌∙◌, subst}
use native.Mathlib.Decide.{ℕ_discrete}
use native.Mathlib.Omega.{arith}
use lib.Dec.{ltb}
use borrow.Author.Tests.{lt-ltb, ltb-true}
use Rattle.laws.proofs.Bools.{and_both, and_parts}
use Rattle.sets.specs.Set.{has, insert}
use Rattle.sets.proofs.Laws.{has-insert-other, insert-le, insert-same→has}
use Rattle.packed.specs.Packed.{left_in}
use Rattle.fill_rule.specs.Passes.{Within, added_in}

module _ (p : List ℕ) (r v own : ℕ) where
  -- what holds of the set, and of the set with the left side if it is added, holds of the result
  pub added-cases : (P : ℕ → Type 0) → P own → (left_in p r < 32 → has 0 v ≡ true → P (insert (left_in p r) own)) → P (added_in p r v own)
  unfolding added_in
  added-cases P old new = go (has 0 v && ltb (left_in p r) 32) refl
    where
      go : (b : Bool) → (has 0 v && ltb (left_in p r) 32) ≡ b → P (cond b (insert (left_in p r) own) own)
      go true e = let u = and_parts (has 0 v) (ltb (left_in p r) 32) e in new (ltb-true (left_in p r) 32 u.1) u.0
      go false e = old

  pub added-le : own ≤ added_in p r v own
  added-le = added-cases (λ (x : ℕ). own ≤ x) (omega arith) (λ _ _. insert-le (left_in p r) own)

  -- each member was one before, or is the left side of the rule if all places of the rule cut the span
  pub added-within : (T : ℕ) → Within own T → (left_in p r < 32 → has 0 v ≡ true → has (left_in p r) T ≡ true) → Within (added_in p r v own) T
  added-within T s f = added-cases (λ (x : ℕ). Within x T) s (λ l h k m. dite (ℕ_discrete k (left_in p r))
      (λ d. subst (λ (x : ℕ). has x T ≡ true) (sym d) (f l h))
      (λ d. s k (sym (has-insert-other k (left_in p r) own d) ∙ m)))

  pub added-same : added_in p r v own ≡ own → left_in p r < 32 → has 0 v ≡ true → has (left_in p r) own ≡ true
  unfolding added_in
  added-same e l h = insert-same→has (left_in p r) own
      (sym (ap (λ (b : Bool). cond b (insert (left_in p r) own) own)
      (and_both (has 0 v) (ltb (left_in p r) 32) h (lt-ltb (left_in p r) 32 l))) ∙ e)
