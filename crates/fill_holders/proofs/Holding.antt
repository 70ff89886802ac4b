-- Each rule is held by its kinds, one after the other: what each step gives. Assumes nothing.
use Prim.Native.Nat.{ℕ, ◌+◌}
use mathlib.Core.Bool.{true}
use mathlib.Core.List.{List}
use mathlib.Core.Logic.{◌⊎◌, inl, inr, ⊎_elim, dite}
use mathlib.Core.Path.{◌≡◌, sym, ap, ◌∙◌, subst}
use native.Mathlib.Decide.{ℕ_discrete}
use native.Mathlib.Omega.{arith}
use lib.ListN.{length, get_or, replicate, length-replicate}
use Rattle.laws.proofs.Bools.{true-false}
use Rattle.laws.proofs.Lists.{below_step}
use Rattle.sets.specs.Set.{has}
use Rattle.sets.specs.Pairs.{Without}
use Rattle.sets.proofs.Laws.{has-empty}
use Rattle.fill_rules.specs.declared.Rules.{Rules}
use Rattle.fill_rules.specs.Rules.{row_size, set_at, has_rule, RuleAdded, SetPut}
use Rattle.fill_rules.proofs.Laws.{zeros-none}
use Rattle.fill_sets.proofs.Words.{rest-keeps}
use Rattle.fill_holders.specs.Holders.{HeldOf, HeldAll}

-- ---- the kinds of a rule

module _ (r kinds : ℕ) (holders₀ : List ℕ) where
  -- the rule is held by all its kinds except those of the rest
  pub record HeldTo (rest : ℕ) (holders : List ℕ) : Type 0 where
    pub long : length holders ≡ row_size
    pub keeps : (k x : ℕ) → has_rule x (set_at holders₀ k) ≡ true → has_rule x (set_at holders k) ≡ true
    pub all : (k : ℕ) → has k kinds ≡ true → (has k rest ≡ true) ⊎ (has_rule r (set_at holders k) ≡ true)
    pub only : (k x : ℕ) → has_rule x (set_at holders k) ≡ true → (x ≡ r) ⊎ (has_rule x (set_at holders₀ k) ≡ true)

  pub held_start : length holders₀ ≡ row_size → HeldTo kinds holders₀
  held_start long = record { long = long; keeps = λ k x h. h; all = λ k h. inl h; only = λ k x h. inr h }

  module _ (rest rest' k : ℕ) (holders holders' : List ℕ) (old new : Rules) (is : old ≡ set_at holders k) (more : RuleAdded r old new)
      (put : SetPut k new holders holders') (without : Without k rest rest') (to : HeldTo rest holders) where
    -- what holds of the set that is put, and of the others, holds of all
    each : (P : ℕ → Rules → Type 0) → P k new → ((j : ℕ) → P j (set_at holders j)) → (j : ℕ) → P j (set_at holders' j)
    each P here other j = dite (ℕ_discrete j k)
        (λ e. subst (λ (y : ℕ). P y (set_at holders' y)) (sym e) (subst (P k) (sym put.here) here))
        (λ d. subst (P j) (sym (put.other j d)) (other j))

    grows : (j x : ℕ) → has_rule x (set_at holders j) ≡ true → has_rule x (set_at holders' j) ≡ true
    grows j x = each (λ (y : ℕ) (s : Rules). has_rule x (set_at holders y) ≡ true → has_rule x s ≡ true)
        (λ h. more.keeps x (ap (has_rule x) is ∙ h)) (λ y h. h) j

    shrinks : (j x : ℕ) → has_rule x (set_at holders' j) ≡ true → (x ≡ r) ⊎ (has_rule x (set_at holders j) ≡ true)
    shrinks j x = each (λ (y : ℕ) (s : Rules). has_rule x s ≡ true → (x ≡ r) ⊎ (has_rule x (set_at holders y) ≡ true))
        (λ h. ⊎_elim inl (λ o. inr (ap (has_rule x) (sym is) ∙ o)) (more.only x h)) (λ y h. inr h) j

    here : has_rule r (set_at holders' k) ≡ true
    here = ap (has_rule r) put.here ∙ more.here

    pub held-step : HeldTo rest' holders'
    held-step = record {
      long = put.long;
      keeps = λ j x h. grows j x (to.keeps j x h);
      all = λ j h. dite (ℕ_discrete j k)
          (λ e. inr (subst (λ (y : ℕ). has_rule r (set_at holders' y) ≡ true) (sym e) here))
          (λ d. ⊎_elim (λ x. inl (rest-keeps j k rest rest' without d x)) (λ x. inr (grows j r x)) (to.all j h));
      only = λ j x h. ⊎_elim inl (to.only j x) (shrinks j x h);
    }

  pub held-done : (rest : ℕ) (holders : List ℕ) → rest ≡ 0 → HeldTo rest holders → HeldOf r kinds holders₀ holders
  held-done rest holders z to = record {
    long = to.long;
    keeps = to.keeps;
    all = λ k h. ⊎_elim (λ x. absurd (true-false x (ap (has k) z ∙ has-empty k))) (λ x. x) (to.all k h);
    below = λ rules k l old x h. ⊎_elim (λ e. omega (arith, e, l)) (old x) (to.only k x h);
  }

-- ---- all rules

pub all_start : (kinds holders : List ℕ) → holders ≡ replicate row_size 0 → HeldAll 0 kinds holders
all_start kinds holders e = record {
  long = ap length e ∙ length-replicate {A = ℕ} row_size 0;
  all = λ r k l h. absurd (omega (arith, l));
  below = λ k r h. absurd (true-false h (ap (λ (row : List ℕ). has_rule r (set_at row k)) e ∙ zeros-none row_size k r));
}

pub all-step : (r : ℕ) (kinds holders holders' : List ℕ) → HeldOf r (get_or kinds r 0) holders holders' → HeldAll r kinds holders
    → HeldAll (r + 1) kinds holders'
all-step r kinds holders holders' held to = record {
  long = held.long;
  all = λ x k l. below_step (λ (y : ℕ). has k (get_or kinds y 0) ≡ true → has_rule y (set_at holders' k) ≡ true) r
      (λ y m h. held.keeps k y (to.all y k m h)) (held.all k) x l;
  below = λ k. held.below (r + 1) k (omega arith) (λ x h. omega (arith, to.below k x h));
}
