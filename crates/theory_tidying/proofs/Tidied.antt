-- What is where in a grammar without rubbish, and that it means the same: its lists are as long as the arrays of a grammar in the code.
-- Assumes nothing.
use Prim.Native.Nat.{ℕ, zero, suc, ◌-◌, ◌≤◌, ◌<◌}
use native.Mathlib.Nat.{le_of_suc-le-suc, not-suc-le-zero}
use native.Mathlib.Omega.{arith}
use mathlib.Core.Bool.{true, cond}
use mathlib.Core.List.{List, [], ◌∷◌, ◌++◌, map, map-map}
use mathlib.Core.Option.{Option, none, some}
use mathlib.Core.Path.{◌≡◌, refl, sym, ap, ap₂, ◌∙◌}
use lib.ListN.{length, take, get_or, replicate, length-map, get_or-map}
use Rattle.sizes.specs.Sizes.{max_rules, max_places}
use Rattle.cfg.specs.Grammar as Abstract
use Rattle.grammar.specs.declared.Rule.{Rule}
use Rattle.grammar.specs.declared.Place.{Place}
use Rattle.grammar.specs.declared.Grammar.{Grammar}
use Rattle.grammar.specs.Valid.{valid_grammar}
use Rattle.grammar.specs.View.{place_of, rule_of, viewed_by, whole_of, in_force, rule_in_year, dated, grammar_of}
use Rattle.grammar.specs.Zero.{zero_place, zero_rule, no_rule}
use Rattle.grammar.proofs.Bounds.{rule-parts, valid-count, valid-each}
use Rattle.grammar.proofs.Names.{map-take}
use Rattle.theory_tidying.specs.Tidying.{tidied_rule, tidied, Shaped}
use Rattle.theory_tidying.proofs.Padded.{padded-front, padded-size, padded-at, padded-past}

-- ---- a rule

module _ (r : Rule) (enough : r.count ≤ length r.places) where
  pub tidied-rule-front : take r.count (tidied_rule r).places ≡ take r.count r.places
  unfolding tidied_rule
  tidied-rule-front = padded-front zero_place r.count max_places r.places enough

  pub tidied-rule-size : r.count ≤ max_places → length (tidied_rule r).places ≡ max_places
  unfolding tidied_rule
  tidied-rule-size h = padded-size zero_place r.count max_places r.places enough h

  pub tidied-rule-at : (q : ℕ) (d : Place) → q < r.count → get_or (tidied_rule r).places q d ≡ get_or r.places q d
  unfolding tidied_rule
  tidied-rule-at q d h = padded-at zero_place r.count max_places r.places enough q d h

  pub tidied-rule-past : (q : ℕ) (d : Place) → r.count ≤ q → q < max_places → get_or (tidied_rule r).places q d ≡ zero_place
  unfolding tidied_rule
  tidied-rule-past q d h k = padded-past zero_place r.count max_places r.places enough q d h k

  -- the rule means the same, in every year
  pub tidied-rule-means : rule_of (tidied_rule r) ≡ rule_of r
  unfolding tidied_rule
  tidied-rule-means = ap (λ (l : List Place). some (record { left = r.left; places = map place_of l })) tidied-rule-front

  pub tidied-rule-in-year : (y : ℕ) → rule_in_year y (tidied_rule r) ≡ rule_in_year y r
  unfolding tidied_rule
  tidied-rule-in-year y = ap (λ (o : Option Abstract.Rule). cond (in_force y r) o none) tidied-rule-means

-- ---- a grammar

module _ (g : Grammar) (enough : g.count ≤ length g.rules) where
  -- the used rules come from those of g, one by one
  tidied-mapped : (tidied g).rules ≡ take g.count (map tidied_rule g.rules) ++ replicate (max_rules - g.count) zero_rule
  unfolding tidied
  tidied-mapped = ap (λ (l : List Rule). l ++ replicate (max_rules - g.count) zero_rule) (map-take tidied_rule g.rules g.count)

  mapped-enough : g.count ≤ length (map tidied_rule g.rules)
  mapped-enough = omega (arith, enough, length-map g.rules tidied_rule)

  pub tidied-size : g.count ≤ max_rules → length (tidied g).rules ≡ max_rules
  tidied-size h = ap length tidied-mapped ∙ padded-size zero_rule g.count max_rules (map tidied_rule g.rules) mapped-enough h

  pub tidied-used : (i : ℕ) → i < g.count → get_or (tidied g).rules i no_rule ≡ tidied_rule (get_or g.rules i no_rule)
  tidied-used i h =
      ap (λ (l : List Rule). get_or l i no_rule) tidied-mapped
      ∙ padded-at zero_rule g.count max_rules (map tidied_rule g.rules) mapped-enough i no_rule h
      ∙ used g.rules i (omega arith)
    where
      used : (l : List Rule) (i : ℕ) → i < length l → get_or (map tidied_rule l) i no_rule ≡ tidied_rule (get_or l i no_rule)
      used [] i h = absurd (not-suc-le-zero h)
      used (r ∷ l) zero h = refl
      used (r ∷ l) (suc i) h = used l i (le_of_suc-le-suc h)

  pub tidied-unused : (i : ℕ) → g.count ≤ i → i < max_rules → get_or (tidied g).rules i no_rule ≡ zero_rule
  tidied-unused i h k =
      ap (λ (l : List Rule). get_or l i no_rule) tidied-mapped
      ∙ padded-past zero_rule g.count max_rules (map tidied_rule g.rules) mapped-enough i no_rule h k

  pub tidied-front : take g.count (tidied g).rules ≡ map tidied_rule (take g.count g.rules)
  tidied-front =
      ap (take g.count) tidied-mapped ∙ padded-front zero_rule g.count max_rules (map tidied_rule g.rules) mapped-enough
      ∙ sym (map-take tidied_rule g.rules g.count)

-- ---- what it means

-- two functions that agree on the first n elements of a list
map-agree : {A B : Type 0} (f h : A → B) (d : A) (l : List A) (n : ℕ) → ((i : ℕ) → i < n → f (get_or l i d) ≡ h (get_or l i d))
    → map f (take n l) ≡ map h (take n l)
map-agree f h d l zero e = refl
map-agree f h d [] (suc n) e = refl
map-agree f h d (a ∷ l) (suc n) e = ap₂ ◌∷◌ (e 0 (omega arith)) (map-agree f h d l n (λ i k. e (suc i) (omega arith)))

module _ (g : Grammar) (S : Shaped g) (valid : valid_grammar g ≡ true) where
  pub shaped-enough : g.count ≤ length g.rules
  shaped-enough = omega (arith, valid-count g valid, S.rules)

  pub shaped-room : (i : ℕ) → i < g.count → (get_or g.rules i no_rule).count ≤ length (get_or g.rules i no_rule).places
  shaped-room i h =
      let few = (rule-parts (get_or g.rules i no_rule) (valid-each g valid i h)).1 in
      let size = S.places i (omega (arith, valid-count g valid, h)) in
      omega arith

  viewed : (view : Rule → Option Abstract.Rule)
      → ((r : Rule) → r.count ≤ length r.places → view (tidied_rule r) ≡ view r) → viewed_by view (tidied g) ≡ viewed_by view g
  unfolding tidied
  viewed view same = ap (λ (l : List (Option Abstract.Rule)). record { start = g.start; rules = l })
      (ap (map view) (tidied-front g shaped-enough) ∙ map-map view tidied_rule (take g.count g.rules)
      ∙ map-agree (λ r. view (tidied_rule r)) view no_rule g.rules g.count
      (λ i h. same (get_or g.rules i no_rule) (shaped-room i h)))

  -- the whole grammar, and the one of each year
  pub tidied-whole : whole_of (tidied g) ≡ whole_of g
  tidied-whole = viewed rule_of tidied-rule-means

  pub tidied-in-year : (y : ℕ) → grammar_of (dated (tidied g) y) ≡ grammar_of (dated g y)
  tidied-in-year y = viewed (rule_in_year y) (λ r e. tidied-rule-in-year r e y)
