-- Sets of rules that are made from others, and put into a row. Assumes nothing.
use Prim.Native.Nat.{ℕ, ◌+◌, ◌*◌, ◌-◌, ◌≤◌, ◌<◌}
use mathlib.Core.Bool.{Bool, true, false, ◌||◌}
use mathlib.Core.List.{List}
use mathlib.Core.Logic.{◌⊎◌, ◌≢◌, inl, inr, ⊎_elim, dite}
use mathlib.Core.Path.{◌≡◌, refl, sym, ap, ap₂, ◌∙◌}
use native.Mathlib.Decide.{ℕ_discrete}
use native.Mathlib.Omega.{arith}
use lib.ListN.{length, get_or, set, length-set}
use lib.Seq.{get_or-set_same, get_or-set_other}
use Rattle.sizes.specs.Sizes.{max_input}
use Rattle.sets.specs.Set.{has, insert}
use Rattle.sets.specs.Pairs.{Union}
use Rattle.sets.proofs.Laws.{has-insert-same, has-insert-other, has-insert}
use Rattle.fill_rules.specs.declared.Rules.{Rules}
use Rattle.fill_rules.specs.Rules.{word_bits, has_rule, RuleAdded, RulesJoined, row_size, SetPut}
use Rattle.fill_rules.proofs.Laws.{by-half, in-low, in-high}

-- ---- a rule is added

new-or-old : (j k v w : ℕ) → w ≡ insert k v → has j w ≡ true → (j ≡ k) ⊎ (has j v ≡ true)
new-or-old j k v w e h = dite (ℕ_discrete j k) inl (λ d. inr (sym (has-insert-other j k v d) ∙ ap (has j) (sym e) ∙ h))

pub added-low : (r : ℕ) (s u : Rules) → r < word_bits → u.low ≡ insert r s.low → u.high ≡ s.high → RuleAdded r s u
added-low r s u h e f = record {
  here = in-low r u h ∙ ap (has r) e ∙ has-insert-same r s.low;
  keeps = λ x m. by-half x
      (λ l. in-low x u l ∙ ap (has x) e ∙ has-insert x r s.low (sym (in-low x s l) ∙ m))
      (λ l. in-high x u l ∙ ap (has (x - word_bits)) f ∙ sym (in-high x s l) ∙ m);
  only = λ x m. by-half x
      (λ l. ⊎_elim inl (λ o. inr (in-low x s l ∙ o)) (new-or-old x r s.low u.low e (sym (in-low x u l) ∙ m)))
      (λ l. inr (in-high x s l ∙ ap (has (x - word_bits)) (sym f) ∙ sym (in-high x u l) ∙ m));
}

pub added-high : (r : ℕ) (s u : Rules) → word_bits ≤ r → u.low ≡ s.low → u.high ≡ insert (r - word_bits) s.high → RuleAdded r s u
added-high r s u h e f = record {
  here = in-high r u h ∙ ap (has (r - word_bits)) f ∙ has-insert-same (r - word_bits) s.high;
  keeps = λ x m. by-half x
      (λ l. in-low x u l ∙ ap (has x) e ∙ sym (in-low x s l) ∙ m)
      (λ l. in-high x u l ∙ ap (has (x - word_bits)) f ∙ has-insert (x - word_bits) (r - word_bits) s.high (sym (in-high x s l) ∙ m));
  only = λ x m. by-half x
      (λ l. inr (in-low x s l ∙ ap (has x) (sym e) ∙ sym (in-low x u l) ∙ m))
      (λ l. ⊎_elim (λ d. inl (omega arith)) (λ o. inr (in-high x s l ∙ o))
      (new-or-old (x - word_bits) (r - word_bits) s.high u.high f (sym (in-high x u l) ∙ m)));
}

-- ---- sets are joined

in_one : (a b c : Bool) → c ≡ (a || b) → c ≡ true → (a ≡ true) ⊎ (b ≡ true)
in_one true b c e h = inl refl
in_one false b c e h = inr (sym e ∙ h)

in_left : (a b c : Bool) → c ≡ (a || b) → a ≡ true → c ≡ true
in_left a b c e h = e ∙ rw h

in_right : (a b c : Bool) → c ≡ (a || b) → b ≡ true → c ≡ true
in_right true b c e h = e
in_right false b c e h = e ∙ h

pub joined : (s t u : Rules) → Union s.low t.low u.low → Union s.high t.high u.high → RulesJoined s t u
joined s t u low high = record {
  left = λ x m. in_left (has_rule x s) (has_rule x t) (has_rule x u) (each x) m;
  right = λ x m. in_right (has_rule x s) (has_rule x t) (has_rule x u) (each x) m;
  only = λ x m. in_one (has_rule x s) (has_rule x t) (has_rule x u) (each x) m;
}
  where
    each : (x : ℕ) → has_rule x u ≡ (has_rule x s || has_rule x t)
    each x = by-half x
        (λ l. in-low x u l ∙ low x ∙ ap₂ ◌||◌ (sym (in-low x s l)) (sym (in-low x t l)))
        (λ l. in-high x u l ∙ high (x - word_bits) ∙ ap₂ ◌||◌ (sym (in-high x s l)) (sym (in-high x t l)))

-- ---- a set is put into a row

module _ (i : ℕ) (s : Rules) (row : List ℕ) (small : i < max_input) (long : length row ≡ row_size) where
  abbrev row' : List ℕ
  row' = set (set row (2 * i) s.low) (2 * i + 1) s.high

  row'-long : length row' ≡ row_size
  row'-long = length-set (set row (2 * i) s.low) (2 * i + 1) s.high ∙ length-set row (2 * i) s.low ∙ long

  -- a word that is not put
  stays : (x : ℕ) → x ≢ 2 * i → x ≢ 2 * i + 1 → get_or row' x 0 ≡ get_or row x 0
  stays x d e = get_or-set_other (set row (2 * i) s.low) (2 * i + 1) x s.high 0 e ∙ get_or-set_other row (2 * i) x s.low 0 d

  low-is : get_or row' (2 * i) 0 ≡ s.low
  low-is = get_or-set_other (set row (2 * i) s.low) (2 * i + 1) (2 * i) s.high 0 (λ e. omega (arith, e))
      ∙ get_or-set_same row (2 * i) s.low 0 (omega arith)

  high_is : get_or row' (2 * i + 1) 0 ≡ s.high
  high_is = get_or-set_same (set row (2 * i) s.low) (2 * i + 1) s.high 0 (omega (arith, length-set row (2 * i) s.low))

  pub set-put : SetPut i s row (set (set row (2 * i) s.low) (2 * i + 1) s.high)
  set-put = record {
    long = row'-long;
    here = ap₂ made low-is high_is;
    other = λ j d. let n : j ≢ i = d in
        ap₂ made (stays (2 * j) (λ e. n (omega (arith, e))) (λ e. omega (arith, e)))
        (stays (2 * j + 1) (λ e. omega (arith, e)) (λ e. n (omega (arith, e))));
  }
    where
      made : ℕ → ℕ → Rules
      made low high = record { low = low; high = high }
