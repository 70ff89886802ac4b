-- Check 8 passes a grammar without rubbish if it passes the grammar; also one with lists of other lengths. Assumes nothing.
use Prim.Native.Nat.{ℕ, zero, suc, ◌-◌}
use mathlib.Core.Bool.{Bool, true, false, not, ◌&&◌, ◌||◌}
use mathlib.Core.List.{List, [], ◌∷◌, ◌++◌, map, map-map}
use mathlib.Core.Path.{◌≡◌, refl, sym, ap, ◌∙◌}
use lib.ListN.{take, replicate}
use borrow.Author.Tests.{not-true}
use Rattle.sizes.specs.Sizes.{max_rules, max_places}
use Rattle.laws.proofs.Bools.{true-false, by-test, bool_false, and_parts, and_both, or-neither}
use Rattle.theory_words.specs.Name.{unnamed, same_name, has_name}
use Rattle.theory_words.proofs.SameName.{same-name}
use Rattle.grammar.specs.declared.Rule.{Rule}
use Rattle.grammar.specs.declared.Grammar.{Grammar}
use Rattle.grammar.specs.Valid.{all, valid_place, valid_rule, names_of, distinct_names, valid_grammar}
use Rattle.grammar.specs.Zero.{zero_place, no_name, zero_rule}
use Rattle.grammar.proofs.Laws.{valid-rule-of, valid-grammar-of}
use Rattle.grammar.proofs.Bounds.{rule-parts, grammar-parts}
use Rattle.grammar.proofs.Apart.{free, not_free}
use Rattle.grammar.proofs.Names.{name, map-take}
use Rattle.theory_tidying.specs.Tidying.{tidied_rule, tidied}
use Rattle.theory_tidying.proofs.Padded.{padded-more, all-padded, map-padded}

-- ---- names

-- a name is not one of some zeros
has-padded : (x : List ℕ) → unnamed x ≡ false → (l : List (List ℕ)) (j : ℕ) → has_name x l ≡ false → has_name x (l ++ replicate j no_name) ≡ false
unfolding has_name unnamed
has-padded x u [] zero h = refl
has-padded x u [] (suc j) h =
    let e = bool_false (same_name x no_name) (λ t. true-false (ap unnamed (same-name x no_name t)) u) in
    rw (e, has-padded x u [] j refl)
has-padded x u (a ∷ l) j h =
    let (p, q) = or-neither (same_name x a) (has_name x l) h in
    rw (p, has-padded x u l j q)

-- names and some zeros are as distinct as the names
distinct-padded : (l : List (List ℕ)) (j : ℕ) → distinct_names l ≡ true → distinct_names (l ++ replicate j no_name) ≡ true
unfolding distinct_names unnamed
distinct-padded [] zero h = refl
distinct-padded [] (suc j) h = distinct-padded [] j refl
distinct-padded (a ∷ l) j h =
    let (p, q) = and_parts (free a l) (distinct_names l) h in
    and_both (free a (l ++ replicate j no_name)) (distinct_names (l ++ replicate j no_name)) (beside p) (distinct-padded l j q)
  where
    beside : free a l ≡ true → free a (l ++ replicate j no_name) ≡ true
    beside f = by-test (unnamed a) (λ t. rw t)
        (λ t. not_free a (l ++ replicate j no_name) (has-padded a t l j (not-true (has_name a l) (rw t at f))))

-- ---- rules

tidied-rule-valid : (r : Rule) → valid_rule r ≡ true → valid_rule (tidied_rule r) ≡ true
unfolding tidied_rule
tidied-rule-valid r v =
    let p = rule-parts r v in
    let (j, e) = padded-more zero_place r.count (max_places - r.count) r.places in
    valid-rule-of (tidied_rule r) p.0 p.1
    (rw e (all-padded zero_place valid_place (take r.count r.places) j p.2 refl)) p.3 p.4

all-mapped : (f : Rule → Rule) → ((r : Rule) → valid_rule r ≡ true → valid_rule (f r) ≡ true) → (l : List Rule) → all valid_rule l ≡ true
    → all valid_rule (map f l) ≡ true
unfolding all
all-mapped f h [] e = refl
all-mapped f h (r ∷ l) e =
    let (p, q) = and_parts (valid_rule r) (all valid_rule l) e in
    and_both (valid_rule (f r)) (all valid_rule (map f l)) (h r p) (all-mapped f h l q)

-- ---- the grammar

zero-valid : valid_rule zero_rule ≡ true
unfolding valid_rule all unnamed
zero-valid = refl

-- a rule keeps its name
names_same : (l : List Rule) → map name (map tidied_rule l) ≡ map name l
unfolding tidied_rule
names_same l = map-map name tidied_rule l

module _ (g : Grammar) where
  -- the used rules come from those of g, one by one; if g has too few, some are zeros
  front-more : (j : ℕ) × (take g.count (tidied g).rules ≡ map tidied_rule (take g.count g.rules) ++ replicate j zero_rule)
  unfolding tidied
  front-more =
      let e = map-take tidied_rule g.rules g.count in
      rw e (padded-more zero_rule g.count (max_rules - g.count) (map tidied_rule g.rules))

  names_more : names_of (tidied g) ≡ names_of g ++ replicate front-more.0 no_name
  unfolding tidied
  names_more =
      ap (map name) front-more.1 ∙ map-padded zero_rule name (map tidied_rule (take g.count g.rules)) front-more.0
      ∙ ap (λ (l : List (List ℕ)). l ++ replicate front-more.0 no_name) (names_same (take g.count g.rules))

  pub tidied-valid : valid_grammar g ≡ true → valid_grammar (tidied g) ≡ true
  unfolding tidied
  tidied-valid v =
      let p = grammar-parts g v in
      let rules = all-mapped tidied_rule tidied-rule-valid (take g.count g.rules) p.2 in
      valid-grammar-of (tidied g) p.0 p.1
      (ap (all valid_rule) front-more.1 ∙ all-padded zero_rule valid_rule _ front-more.0 rules zero-valid)
      (ap distinct_names names_more ∙ distinct-padded (names_of g) front-more.0 p.3)
