-- The number of members of a set of rules: it is at most that of all rules, less if a rule is not in the set, and a new member adds to it.
-- Assumes nothing.
use Prim.Native.Nat.{ℕ, zero, suc, ◌+◌, ◌-◌, ◌≤◌, ◌<◌}
use mathlib.Core.Bool.{Bool, true, false, cond}
use mathlib.Core.Logic.{◌≢◌, dite}
use mathlib.Core.Path.{◌≡◌, sym, ap, ◌∙◌}
use native.Mathlib.Decide.{ℕ_discrete}
use native.Mathlib.Omega.{arith}
use Rattle.sizes.specs.Sizes.{max_rules}
use Rattle.laws.proofs.Bools.{by-test}
use Rattle.sets.specs.Set.{has, count_below}
use Rattle.sets.proofs.Card.{count-le}
use Rattle.fill_rules.specs.declared.Rules.{Rules}
use Rattle.fill_rules.specs.Rules.{word_bits, has_rule, size_of}
use Rattle.fill_rules.proofs.Laws.{by-half, in-low, in-high, in-high-at}

-- ---- the members of a word

count-in : (n w : ℕ) → has n w ≡ true → count_below (suc n) w ≡ suc (count_below n w)
unfolding count_below
count-in n w e = ap (λ (b : Bool). cond b (suc (count_below n w)) (count_below n w)) e

count-out : (n w : ℕ) → has n w ≡ false → count_below (suc n) w ≡ count_below n w
unfolding count_below
count-out n w e = ap (λ (b : Bool). cond b (suc (count_below n w)) (count_below n w)) e

count-suc : (n w : ℕ) → (count_below n w ≤ count_below (suc n) w) × (count_below (suc n) w ≤ suc (count_below n w))
count-suc n w = by-test (has n w) (λ e. omega (arith, count-in n w e)) (λ e. omega (arith, count-out n w e))

-- a set that lacks a number is not full
pub count-lacks : (n w k : ℕ) → k < n → has k w ≡ false → count_below n w < n
count-lacks zero w k h a = omega arith
count-lacks (suc n) w k h a = dite (ℕ_discrete k n)
    (λ e. omega (arith, count-out n w (ap (λ (x : ℕ). has x w) (sym e) ∙ a), count-le n w))
    (λ d. let f : k ≢ n = d in omega (arith, (count-suc n w).1, count-lacks n w k (omega arith) a))

-- the members below n of v are in w
abbrev Sub : ℕ → ℕ → ℕ → Type 0
Sub n v w = (k : ℕ) → k < n → has k v ≡ true → has k w ≡ true

module _ (v w : ℕ) where
  count-step : (n d : ℕ) → (has n v ≡ true → has n w ≡ true) → d + count_below n v ≤ count_below n w
      → d + count_below (suc n) v ≤ count_below (suc n) w
  count-step n d sub l = by-test (has n v)
      (λ e. omega (arith, count-in n v e, count-in n w (sub e)))
      (λ e. omega (arith, count-out n v e, (count-suc n w).0))

  pub count-mono : (n : ℕ) → Sub n v w → count_below n v ≤ count_below n w
  unfolding count_below
  count-mono zero sub = omega arith
  count-mono (suc n) sub =
      omega (arith, count-step n 0 (sub n (omega arith)) (omega (arith, count-mono n (λ k h. sub k (omega arith)))))

  pub count-more : (n k : ℕ) → Sub n v w → k < n → has k v ≡ false → has k w ≡ true → count_below n v < count_below n w
  count-more zero k sub h a b = omega arith
  count-more (suc n) k sub h a b = dite (ℕ_discrete k n)
      (λ e. let p : has n v ≡ false = sym (ap (λ (x : ℕ). has x v) e) ∙ a in
      let q : has n w ≡ true = sym (ap (λ (x : ℕ). has x w) e) ∙ b in
      omega (arith, count-out n v p, count-in n w q, count-mono n (λ j g. sub j (omega arith))))
      (λ d. let f : k ≢ n = d in
      let l : count_below n v < count_below n w = count-more n k (λ j g. sub j (omega arith)) (omega arith) a b in
      omega (arith, count-step n 1 (sub n (omega arith)) (omega arith)))

-- ---- the members of a set of rules

pub size-le : (s : Rules) → size_of s ≤ max_rules
size-le s = omega (arith, count-le word_bits s.low, count-le word_bits s.high)

-- a set that lacks a rule is not full
pub size-lacks : (s : Rules) (r : ℕ) → r < max_rules → has_rule r s ≡ false → size_of s < max_rules
size-lacks s r h a = by-half r
    (λ l. omega (arith, count-lacks word_bits s.low r l (sym (in-low r s l) ∙ a), count-le word_bits s.high))
    (λ l. omega (
      arith,
      count-lacks word_bits s.high (r - word_bits) (omega arith) (sym (in-high r s l) ∙ a),
      count-le word_bits s.low,
    ))

-- a new member adds to the number
pub size-more : (s u : Rules) (r : ℕ) → r < max_rules → ((x : ℕ) → has_rule x s ≡ true → has_rule x u ≡ true)
    → has_rule r s ≡ false → has_rule r u ≡ true → size_of s < size_of u
size-more s u r h keeps a b = by-half r
    (λ l. omega (
      arith,
      count-mono s.high u.high word_bits high,
      count-more s.low u.low word_bits r low l (sym (in-low r s l) ∙ a) (sym (in-low r u l) ∙ b),
    ))
    (λ l. omega (
      arith,
      count-mono s.low u.low word_bits low,
      count-more s.high u.high word_bits (r - word_bits) high (omega arith) (sym (in-high r s l) ∙ a) (sym (in-high r u l) ∙ b),
    ))
  where
    low : Sub word_bits s.low u.low
    low k l e = sym (in-low k u l) ∙ keeps k (in-low k s l ∙ e)

    high : Sub word_bits s.high u.high
    high k l e = sym (in-high-at k u) ∙ keeps (word_bits + k) (in-high-at k s ∙ e)
