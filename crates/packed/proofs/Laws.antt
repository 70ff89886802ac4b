-- What a packed grammar means, rule by rule and place by place. Assumes nothing.
use Prim.Native.Nat.{ℕ, zero, suc, ◌+◌, ◌*◌, ◌-◌, ◌≤◌, ◌<◌, min}
use mathlib.Core.Bool.{Bool, true, false, cond}
use mathlib.Core.List.{List, [], ◌∷◌}
use mathlib.Core.Option.{none, some, none-ne-some}
use mathlib.Core.Path.{◌≡◌, refl, sym, ap, ◌∙◌}
use mathlib.Core.Logic.{dite}
use native.Mathlib.Decide.{dec_lt}
use native.Mathlib.Omega.{arith}
use lib.Dec.{ltb}
use lib.ListN.{get_elem?, get_or}
use borrow.Author.Tests.{lt-ltb, le-ltb, ltb-true}
use Rattle.sizes.specs.Sizes.{max_rules, max_places}
use Rattle.laws.proofs.Bools.{clash}
use Rattle.cfg.specs.Grammar.{Rule, joined, rule, Of}
use Rattle.chart.proofs.Derived.{Bounded}
use Rattle.packed.specs.Packed.{left_in, place_count, symbol_in, places_from, places_in, rule_in, packed_rules, rules_in, cfg_in, rule_bytes}

-- ---- places

-- a rule that exists has the count in its byte
pub count-used : (p : List ℕ) (r : ℕ) → left_in p r < 32 → place_count p r ≡ min (get_or p (rule_bytes * r + 1) 0) 8
unfolding place_count
count-used p r h = rw (lt-ltb (left_in p r) 32 h)

-- a rule that does not exist has no places
pub count-unused : (p : List ℕ) (r : ℕ) → 32 ≤ left_in p r → place_count p r ≡ 0
unfolding place_count
count-unused p r h = rw (le-ltb (left_in p r) 32 h)

pub count-le : (p : List ℕ) (r : ℕ) → place_count p r ≤ max_places
count-le p r = dite (dec_lt (left_in p r) 32) (λ h. omega (arith, count-used p r h)) (λ h. omega (arith, count-unused p r (omega arith)))

-- k is the left side: a rule that exists has the count in its byte if that is below 8; a rule that does not exist has no places
module _ (p : List ℕ) (r k : ℕ) (e : k ≡ left_in p r) where
  pub count_small : (n : ℕ) → k < 32 → n ≡ get_or p (rule_bytes * r + 1) 0 → n < max_places → n ≡ place_count p r
  count_small n h f l = omega (arith, count-used p r (omega arith))

  pub count_none : 32 ≤ k → 0 ≡ place_count p r
  count_none h = omega (arith, count-unused p r (omega arith))

pub places-step : (p : List ℕ) (r q : ℕ) → q < place_count p r
    → places_from p r q (place_count p r - q) ≡ symbol_in p r q ∷ places_from p r (suc q) (place_count p r - suc q)
unfolding places_from
places-step p r q h = ap (places_from p r q) {x = place_count p r - q} {y = suc (place_count p r - suc q)} (omega arith)

pub places-end : (p : List ℕ) (r q : ℕ) → place_count p r ≤ q → places_from p r q (place_count p r - q) ≡ []
unfolding places_from
places-end p r q h = ap (places_from p r q) {x = place_count p r - q} {y = 0} (omega arith)

pub places-start : (p : List ℕ) (r : ℕ) → places_from p r 0 (place_count p r - 0) ≡ places_in p r
unfolding places_in
places-start p r = ap (places_from p r 0) (omega arith)

-- ---- one rule

-- the rule that row r describes
abbrev pub row_rule : List ℕ → ℕ → Rule
row_rule p r = record { left = left_in p r; places = places_in p r }

pub rule-used : (p : List ℕ) (r : ℕ) → left_in p r < 32 → rule_in p r ≡ some (row_rule p r)
unfolding rule_in
rule-used p r h = ap (λ (b : Bool). cond b (some (row_rule p r)) none) (lt-ltb (left_in p r) 32 h)

pub rule-unused : (p : List ℕ) (r : ℕ) → 32 ≤ left_in p r → rule_in p r ≡ none
unfolding rule_in
rule-unused p r h = ap (λ (b : Bool). cond b (some (row_rule p r)) none) (le-ltb (left_in p r) 32 h)

used-rule : (p : List ℕ) (r : ℕ) (ρ : Rule) → rule_in p r ≡ some ρ → (left_in p r < 32) × (row_rule p r ≡ ρ)
unfolding rule_in
used-rule p r ρ e = go (ltb (left_in p r) 32) refl e
  where
    go : (b : Bool) → ltb (left_in p r) 32 ≡ b → cond b (some (row_rule p r)) none ≡ some ρ → (left_in p r < 32) × (row_rule p r ≡ ρ)
    go true q h = (ltb-true (left_in p r) 32 q, cc)
    go false q h = clash cc

-- ---- the rules by their numbers

rules-at : (p : List ℕ) (n a r : ℕ) → r < n → get_elem? (packed_rules p a n) r ≡ some (rule_in p (a + r))
unfolding packed_rules
rules-at p zero a r h = absurd (omega arith)
rules-at p (suc n) a zero h = ap (λ (x : ℕ). some (rule_in p x)) (omega arith)
rules-at p (suc n) a (suc r) h = rules-at p n (suc a) r (omega arith) ∙ ap (λ (x : ℕ). some (rule_in p x)) {x = suc a + r} (omega arith)

rules-past : (p : List ℕ) (n a r : ℕ) → n ≤ r → get_elem? (packed_rules p a n) r ≡ none
unfolding packed_rules
rules-past p zero a r h = refl
rules-past p (suc n) a zero h = absurd (omega arith)
rules-past p (suc n) a (suc r) h = rules-past p n (suc a) r (omega arith)

module _ (s : ℕ) (p : List ℕ) where
  pub rule-in : (r : ℕ) → r < max_rules → rule (cfg_in s p) r ≡ rule_in p r
  unfolding cfg_in rules_in joined
  rule-in r h = ap joined (rules-at p max_rules 0 r h) ∙ ap (rule_in p) {x = 0 + r} (omega arith)

  pub rule-in-past : (r : ℕ) → max_rules ≤ r → rule (cfg_in s p) r ≡ none
  unfolding cfg_in rules_in joined
  rule-in-past r h = ap joined (rules-past p max_rules 0 r h)

  -- ---- the rules of a nonterminal

  pub of-in : (r k : ℕ) (o : Of (cfg_in s p) r k)
      → (r < max_rules) × (left_in p r ≡ k) × (left_in p r < 32) × (o.the.places ≡ places_in p r)
  of-in r k o = dite (dec_lt r max_rules)
      (λ h.
      let u = used-rule p r o.the (sym (rule-in r h) ∙ o.here) in
      (h, ap (λ (ρ : Rule). ρ.left) u.1 ∙ o.left, u.0, sym (ap (λ (ρ : Rule). ρ.places) u.1)))
      (λ h. absurd (none-ne-some o.the (sym (rule-in-past r (omega arith)) ∙ o.here)))

  unfoldable pub in-of : (r k : ℕ) → r < max_rules → left_in p r ≡ k → left_in p r < 32 → Of (cfg_in s p) r k
  in-of r k h e l = record { the = row_rule p r; here = rule-in r h ∙ rule-used p r l; left = e }

  pub in-of-places : (r k : ℕ) (h : r < max_rules) (e : left_in p r ≡ k) (l : left_in p r < 32) → (in-of r k h e l).the.places ≡ places_in p r
  unfolding in-of
  in-of-places r k h e l = refl

  pub cfg-in-bounded : Bounded (cfg_in s p)
  cfg-in-bounded r k o = let u = of-in r k o in omega (arith, u.1, u.2)
