-- Membership in a set of rules: by halves, in the empty set, and in rows of zeros. Assumes nothing.
use Prim.Native.Nat.{ℕ, ◌*◌, ◌+◌, ◌-◌, ◌^◌, ◌≤◌, ◌<◌}
use mathlib.Core.Bool.{Bool, cond}
use mathlib.Core.Logic.{dite}
use mathlib.Core.Path.{◌≡◌, ap, ap₂, ◌∙◌}
use native.Mathlib.Decide.{dec_lt}
use native.Mathlib.Omega.{arith}
use lib.ListN.{replicate}
use borrow.Author.Tests.{lt-ltb, le-ltb}
use Rattle.sizes.specs.Sizes.{max_rules}
use Rattle.laws.proofs.Bools.{true-false}
use Rattle.laws.proofs.Lists.{zeros-at}
use Rattle.sets.specs.Set.{has}
use Rattle.sets.proofs.Laws.{has-empty, has_above}
use Rattle.fill_rules.specs.declared.Rules.{Rules}
use Rattle.fill_rules.specs.Rules.{word_bits, in_words, has_rule, NoRule, RulesBelow, set_at}

-- a rule of the first word, or of the second
pub by-half : {P : Type 0} (r : ℕ) → (r < word_bits → P) → (word_bits ≤ r → P) → P
by-half r f g = dite (dec_lt r word_bits) f (λ n. g (omega arith))

pub in-low : (r : ℕ) (s : Rules) → r < word_bits → has_rule r s ≡ has r s.low
unfolding in_words
in-low r s h = ap (λ (b : Bool). cond b (has r s.low) (has (r - word_bits) s.high)) (lt-ltb r word_bits h)

pub in-high : (r : ℕ) (s : Rules) → word_bits ≤ r → has_rule r s ≡ has (r - word_bits) s.high
unfolding in_words
in-high r s h = ap (λ (b : Bool). cond b (has r s.low) (has (r - word_bits) s.high)) (le-ltb r word_bits h)

-- the same by the bit of a word
pub in-low-at : (b : ℕ) (s : Rules) → b < word_bits → has_rule (0 + b) s ≡ has b s.low
in-low-at b s h =
    let e : 0 + b ≡ b = omega arith in
    ap (λ (x : ℕ). has_rule x s) e ∙ in-low b s h

pub in-high-at : (b : ℕ) (s : Rules) → has_rule (word_bits + b) s ≡ has b s.high
in-high-at b s =
    let e : word_bits + b - word_bits ≡ b = omega arith in
    in-high (word_bits + b) s (omega arith) ∙ ap (λ (x : ℕ). has x s.high) e

-- a set of empty words has no member
pub no-rule : (s : Rules) → s.low ≡ 0 → s.high ≡ 0 → NoRule s
no-rule s e f r = by-half r
    (λ l. in-low r s l ∙ ap (has r) e ∙ has-empty r)
    (λ l. in-high r s l ∙ ap (has (r - word_bits)) f ∙ has-empty (r - word_bits))

-- nor has a set of a row of empty words
pub zeros-none : (m i : ℕ) → NoRule (set_at (replicate m 0) i)
zeros-none m i = no-rule (set_at (replicate m 0) i) (zeros-at m (2 * i)) (zeros-at m (2 * i + 1))

-- the members of a set of two words of the machine are rules
pub rules-small : (s : Rules) → s.high < 2 ^ 64 → RulesBelow max_rules s
rules-small s w r h = dite (dec_lt r max_rules) (λ l. l) (λ n.
    let g : max_rules ≤ r = omega arith in
    absurd (true-false h (in-high r s (omega arith) ∙ has_above 64 (r - word_bits) s.high w (omega arith))))
