-- The members of a set that are not listed are listed word by word. Assumes nothing.
use Prim.Native.Nat.{ℕ, ◌+◌, ◌-◌}
use mathlib.Core.Bool.{Bool, true, false, not}
use mathlib.Core.List.{List}
use mathlib.Core.Logic.{◌⊎◌, inl, inr, ⊎_elim}
use mathlib.Core.Path.{◌≡◌, refl, sym, ap, ◌∙◌, subst}
use native.Mathlib.Omega.{arith}
use borrow.Author.Tests.{not-true}
use Rattle.laws.proofs.Bools.{true-false, by-test, bool_false, and_parts, and_both}
use Rattle.sets.specs.Set.{has}
use Rattle.sets.specs.Pairs.{Less}
use Rattle.fill_rules.specs.declared.Rules.{Rules}
use Rattle.fill_rules.specs.declared.Listed.{Listed}
use Rattle.fill_rules.specs.Rules.{word_bits, has_rule, NoRule, SameRules}
use Rattle.fill_rules.specs.Listing.{ListOf, ListedToo, Relisted}
use Rattle.fill_rules.proofs.Laws.{by-half, in-low, in-low-at, in-high, in-high-at}
use Rattle.fill_sets.specs.Words.{Apart, InWord, WordListed}

-- ---- what a word lacks

less-parts : (k v w x : ℕ) → Less v w x → has k x ≡ true → (has k v ≡ true) × (has k w ≡ false)
less-parts k v w x less h =
    let u = and_parts (has k v) (not (has k w)) (sym (less k) ∙ h) in
    (u.0, not-true (has k w) u.1)

less-or : (k v w x : ℕ) → Less v w x → has k v ≡ true → (has k x ≡ true) ⊎ (has k w ≡ true)
less-or k v w x less h = by-test (has k w) inr
    (λ e. inl (less k ∙ and_both (has k v) (not (has k w)) h (ap not e)))

-- ---- a set is listed too

module _ (s : Rules) (l : Listed) (list : List ℕ) where
  pub too-same : (f : Bool) → f ≡ true → SameRules s l.set f → ListOf l list → ListedToo s l l list list
  too-same f t same listed = record {
    listed = listed;
    grows = omega arith;
    front = λ x h. refl;
    keeps = λ r h. h;
    added = λ r h. sym (same t r) ∙ h;
    only = λ r h. inr h;
  }

  -- what is left of the first word is not listed
  pub apart_low : (x : ℕ) → Less s.low l.set.low x → Apart 0 x l.set
  apart_low x less b h m = in-low-at b l.set h ∙ (less-parts b s.low l.set.low x less m).1

  module _ (x : ℕ) (l' : Listed) (list' : List ℕ) (less : Less s.low l.set.low x) (low : WordListed 0 x l l' list list') where
    -- nor is what is left of the second, after the first
    pub apart-high : (y : ℕ) → Less s.high l.set.high y → Apart word_bits y l'.set
    apart-high y less' b h m = bool_false (has_rule (word_bits + b) l'.set) (λ g. ⊎_elim
        (λ i. let (c, k, _, e) = i in omega (arith, k, e))
        (λ o. true-false o (in-high-at b l.set ∙ (less-parts b s.high l.set.high y less' m).1)) (low.only (word_bits + b) g))

    module _ (y : ℕ) (l'' : Listed) (list'' : List ℕ) (less' : Less s.high l.set.high y)
        (high : WordListed word_bits y l' l'' list' list'') where
      keeps : (r : ℕ) → has_rule r l.set ≡ true → has_rule r l''.set ≡ true
      keeps r h = high.keeps r (low.keeps r h)

      added-high : (b : ℕ) → has b s.high ≡ true → has_rule (word_bits + b) l''.set ≡ true
      added-high b h = ⊎_elim (high.added b) (λ o. keeps (word_bits + b) (in-high-at b l.set ∙ o))
          (less-or b s.high l.set.high y less' h)

      added : (r : ℕ) → has_rule r s ≡ true → has_rule r l''.set ≡ true
      added r h = by-half r
          (λ k. ⊎_elim (λ m. let e : 0 + r ≡ r = omega arith in
          high.keeps r (subst (λ (z : ℕ). has_rule z l'.set ≡ true) e (low.added r m))) (λ o. keeps r (in-low r l.set k ∙ o))
          (less-or r s.low l.set.low x less (sym (in-low r s k) ∙ h)))
          (λ k. let e : word_bits + (r - word_bits) ≡ r = omega arith in
          subst (λ (z : ℕ). has_rule z l''.set ≡ true) e (added-high (r - word_bits) (sym (in-high r s k) ∙ h)))

      of_low : (r : ℕ) → InWord 0 x r → has_rule r s ≡ true
      of_low r (b, k, m, e) = subst (λ (z : ℕ). has_rule z s ≡ true) (sym e)
          (in-low-at b s k ∙ (less-parts b s.low l.set.low x less m).0)

      of-high : (r : ℕ) → InWord word_bits y r → has_rule r s ≡ true
      of-high r (b, k, m, e) = subst (λ (z : ℕ). has_rule z s ≡ true) (sym e)
          (in-high-at b s ∙ (less-parts b s.high l.set.high y less' m).0)

      pub too-both : ListedToo s l l'' list list''
      too-both = record {
        listed = high.listed;
        grows = omega (arith, low.grows, high.grows);
        front = λ t h. high.front t (omega (arith, low.grows)) ∙ low.front t h;
        keeps = keeps;
        added = added;
        only = λ r h. ⊎_elim (λ i. inl (of-high r i)) (λ o. ⊎_elim (λ i. inl (of_low r i)) inr (low.only r o)) (high.only r h);
      }

-- ---- a set is listed alone

-- nothing is listed
pub list-none : (s : Rules) (l : Listed) (list : List ℕ) → NoRule s → ListOf l list → ListOf (record { set = s; count = 0 }) list
list-none s l list none listed = record {
  numbers = record { long = listed.numbers.long; few = omega arith; below = λ t h. absurd (omega (arith, h)) };
  room = omega arith;
  member = λ r i. let (t, h, _) = i in absurd (omega (arith, h));
  all = λ r h. absurd (true-false h (none r));
}

pub relist-same : (s : Rules) (l : Listed) (list : List ℕ) (f : Bool) → f ≡ true → SameRules s l.set f → ListOf l list
    → Relisted s l list
relist-same s l list f t same listed = record {
  listed = listed;
  all = λ r h. sym (same t r) ∙ h;
  only = λ r h. same t r ∙ h;
}

pub relist-all : (s e : Rules) (l' : Listed) (list list' : List ℕ) → NoRule e → ListedToo s (record { set = e; count = 0 }) l' list list'
    → Relisted s l' list'
relist-all s e l' list list' none too = record {
  listed = too.listed;
  all = too.added;
  only = λ r h. ⊎_elim (λ x. x) (λ o. absurd (true-false o (none r))) (too.only r h);
}
