-- The texts of rules with distinct valid names, and of rules without one, tell the rules apart. Assumes nothing.
use Prim.Native.Nat.{ℕ, ◌+◌, ◌/◌, ◌%◌, ◌≤◌, ◌<◌}
use native.Mathlib.Omega.{arith}
use mathlib.Core.Bool.{true, false}
use mathlib.Core.List.{List, ◌∷◌, ◌++◌, head-eq_of_cons-eq, tail-eq_of_cons-eq}
use mathlib.Core.Logic.{◌≢◌}
use mathlib.Core.Path.{◌≡◌, refl, sym, ap₂, ◌∙◌}
use lib.Dec.{ltb}
use lib.ListN.{length}
use borrow.Author.Tests.{ltb-true, ltb-false}
use Rattle.laws.proofs.Bools.{by-test}
use Rattle.theory_words.specs.Name.{name_size, valid_name, unnamed, unfilled, hex_digit, number_text, rule_text}
use Rattle.theory_words.specs.Words.{opening, closing, leaf_sign}
use Rattle.theory_words.specs.Telling.{first_byte, Telling, DistinctNames}
use Rattle.theory_words.proofs.Same.{digit-same}
use Rattle.theory_words.proofs.Filled.{Plain, plain-none, plain_more, valid-name}
use Rattle.theory_words.proofs.Filled.{unfilled-plain, unfilled-same, unfilled-not-number, unfilled-short}

-- ---- texts without signs

-- a text without `(` ends where the first `(` is
plain-same : {a b : List ℕ} (x y : List ℕ) → Plain a → Plain b → a ++ (opening ∷ x) ≡ b ++ (opening ∷ y) → a ≡ b
plain-same x y plain-none plain-none e = refl
plain-same x y plain-none (plain_more n _ _ q) e = absurd (n (sym (head-eq_of_cons-eq e)))
plain-same x y (plain_more n _ _ p) plain-none e = absurd (n (head-eq_of_cons-eq e))
plain-same x y (plain_more _ _ _ p) (plain_more _ _ _ q) e =
    ap₂ ◌∷◌ (head-eq_of_cons-eq e) (plain-same x y p q (tail-eq_of_cons-eq e))

plain-not-leaf : {a : List ℕ} (x : List ℕ) → Plain a → first_byte (a ++ (opening ∷ x)) ≢ leaf_sign
plain-not-leaf x plain-none = omega arith
plain-not-leaf x (plain_more _ _ n p) = n

plain-not-end : {a : List ℕ} (x : List ℕ) → Plain a → first_byte (a ++ (opening ∷ x)) ≢ closing
plain-not-end x plain-none = omega arith
plain-not-end x (plain_more _ n _ p) = n

-- texts without signs that differ tell the rules apart
pub plain-telling : (n : ℕ) (names : ℕ → List ℕ) → ((r : ℕ) → r < n → Plain (names r))
    → ((r s : ℕ) → r < n → s < n → names r ≡ names s → r ≡ s) → Telling n names
plain-telling n names plain same = record {
  apart = λ r s x y h k e. same r s h k (plain-same x y (plain r h) (plain s k) e);
  not_leaf = λ r x h. plain-not-leaf x (plain r h);
  not_end = λ r x h. plain-not-end x (plain r h);
}

-- ---- numbers as texts

digit-plain : (d : ℕ) {l : List ℕ} → Plain l → Plain (hex_digit d ∷ l)
unfolding hex_digit
digit-plain d {l} p = by-test (ltb d 10)
    (λ t. let h = ltb-true d 10 t in rw t (plain_more {b = 0x30 + d} (omega arith) (omega arith) (omega arith) p))
    (λ f. let h = ltb-false d 10 f in rw f (plain_more {b = 0x37 + d} (omega arith) (omega arith) (omega arith) p))

number-plain : (r : ℕ) → Plain (number_text r)
unfolding number_text
number-plain r =
    plain_more {b = 0x23} (omega arith) (omega arith) (omega arith)
    (digit-plain (r / 100) (digit-plain (r / 10 % 10) (digit-plain (r % 10) plain-none)))

-- a number is known by its last decimal digit and by those before it
tens-same : (r s : ℕ) → r / 10 ≡ s / 10 → r % 10 ≡ s % 10 → r ≡ s
tens-same r s p q = omega arith

hundreds : (r : ℕ) → r / 10 / 10 ≡ r / 100
hundreds r = omega arith

number_same : (r s : ℕ) → number_text r ≡ number_text s → r ≡ s
unfolding number_text
number_same r s e =
    let tail = tail-eq_of_cons-eq e in
    let last = tail-eq_of_cons-eq tail in
    let high : r / 10 / 10 ≡ s / 10 / 10 =
    hundreds r ∙ digit-same (r / 100) (s / 100) (head-eq_of_cons-eq tail) ∙ sym (hundreds s) in
    let middle = digit-same (r / 10 % 10) (s / 10 % 10) (head-eq_of_cons-eq last) in
    let low = digit-same (r % 10) (s % 10) (head-eq_of_cons-eq (tail-eq_of_cons-eq last)) in
    tens-same r s (tens-same (r / 10) (s / 10) high middle) low

-- ---- texts of rules

-- the text of a rule without a name
text-number : (name : List ℕ) (r : ℕ) → unnamed name ≡ true → rule_text name r ≡ number_text r
unfolding rule_text
text-number name r t = rw t

-- the text of a rule with a name
text-name : (name : List ℕ) (r : ℕ) → unnamed name ≡ false → rule_text name r ≡ unfilled name
unfolding rule_text
text-name name r f = rw f

module _ (n : ℕ) (name : ℕ → List ℕ) (D : DistinctNames n name) where
  -- a rule with a name has a valid one
  valid-at : (r : ℕ) → r < n → unnamed (name r) ≡ false → valid_name (name r) ≡ true
  valid-at r h f = rw f at (D.valid r h)

  text-plain : (r : ℕ) → r < n → Plain (rule_text (name r) r)
  text-plain r h = by-test (unnamed (name r))
      (λ t. rw (text-number (name r) r t) (number-plain r))
      (λ f. rw (text-name (name r) r f) (unfilled-plain (valid-name (name r) (valid-at r h f)).form))

  -- a number is no name
  number-name : (r s : ℕ) → s < n → unnamed (name r) ≡ true → unnamed (name s) ≡ false
      → rule_text (name r) r ≡ rule_text (name s) s → ⊥
  unfolding number_text
  number-name r s k t f e =
      unfilled-not-number _ (valid-name (name s) (valid-at s k f)).form
      (sym (text-name (name s) s f) ∙ sym e ∙ text-number (name r) r t)

  name-same : (r s : ℕ) → r < n → s < n → unnamed (name r) ≡ false → unnamed (name s) ≡ false
      → rule_text (name r) r ≡ rule_text (name s) s → r ≡ s
  name-same r s h k f g e =
      let v = valid-name (name r) (valid-at r h f) in
      let w = valid-name (name s) (valid-at s k g) in
      D.distinct r s h k f (unfilled-same v.form w.form (v.size ∙ sym w.size)
      (sym (text-name (name r) r f) ∙ e ∙ text-name (name s) s g))

  text_same : (r s : ℕ) → r < n → s < n → rule_text (name r) r ≡ rule_text (name s) s → r ≡ s
  text_same r s h k e = by-test (unnamed (name r))
      (λ t. by-test (unnamed (name s))
      (λ u. number_same r s (sym (text-number (name r) r t) ∙ e ∙ text-number (name s) s u))
      (λ g. absurd (number-name r s k t g e)))
      (λ f. by-test (unnamed (name s))
      (λ u. absurd (number-name s r h u f (sym e)))
      (λ g. name-same r s h k f g e))

  pub names-telling : Telling n (λ r. rule_text (name r) r)
  names-telling = plain-telling n (λ r. rule_text (name r) r) text-plain text_same

  pub text-short : (r : ℕ) → r < n → length (rule_text (name r) r) ≤ name_size
  unfolding number_text
  text-short r h = by-test (unnamed (name r))
      (λ t. rw (text-number (name r) r t) (omega arith))
      (λ f. let v = valid-name (name r) (valid-at r h f) in
      let s = unfilled-short (name r) in
      rw (text-name (name r) r f) (omega arith))
