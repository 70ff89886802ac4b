-- What the functions of check 8 need, with premises as their code gives them: check 8 refuses if one of its tests fails, and passes if
-- all of them pass. Assumes nothing.
use Prim.Native.Nat.{ℕ, ◌+◌, ◌≤◌, ◌<◌}
use mathlib.Core.Bool.{Bool, true, false, not, ◌&&◌, and-false}
use mathlib.Core.List.{List, map}
use mathlib.Core.Path.{◌≡◌, refl, sym, ap, ◌∙◌}
use lib.Dec.{leb}
use lib.ListN.{length, take, get_or}
use lib.Seq.{take-length}
use borrow.Author.Tests.{lt-leb, le-leb, not-true, not-false}
use Rattle.std.proofs.lemmas.List.{take_all}
use Rattle.std.specs.List.{list_all}
use Rattle.sizes.specs.Sizes.{max_rules, max_places}
use Rattle.laws.proofs.Bools.{and_both}
use Rattle.theory_words.specs.Name.{unnamed, allowed_name}
use Rattle.grammar.specs.declared.Symbol.TheVariants.{Nonterminal, Range}
use Rattle.grammar.specs.declared.Place.{Place}
use Rattle.grammar.specs.declared.Rule.{Rule}
use Rattle.grammar.specs.declared.Grammar.{Grammar}
use Rattle.grammar.specs.Valid.{all, valid_symbol, valid_place, valid_rule, names_of, distinct_names, valid_grammar}
use Rattle.grammar.specs.Zero.{no_rule}
use Rattle.grammar.proofs.All.{all-list, all_more, all-refuses}

pub place-nonterminal : (p : Place) (k : ℕ) → p.symbol ≡ Nonterminal k → leb k 31 ≡ valid_place p
place-nonterminal p k e = sym (ap valid_symbol e)

pub place-range : (p : Place) (low high : ℕ) → p.symbol ≡ Range low high → leb low high ≡ valid_place p
place-range p low high e = sym (ap valid_symbol e)

pub no_rule-valid : valid_rule no_rule ≡ true
unfolding valid_rule all unnamed
no_rule-valid = refl

-- b is what the test says of element q, and it is true: so one more element passes
pub all-next : {A : Type 0} (test : A → Bool) (d : A) (l : List A) (q : ℕ) (b : Bool) → b ≡ test (get_or l q d) → not b ≡ false
    → all test (take q l) ≡ true → all test (take (q + 1) l) ≡ true
all-next test d l q b e t h = all_more test d l q h (sym e ∙ not-false b t)

module _ (r : Rule) where
  -- once all else is checked, the years and the name decide
  rule-years : r.left ≤ 31 → r.count ≤ max_places → all valid_place (take r.count r.places) ≡ true
      → valid_rule r ≡ (leb r.first r.last && allowed_name r.name)
  unfolding valid_rule
  rule-years h k e = simp (le-leb r.left 31 h, le-leb r.count 8 k, e)

  pub valid-rule-of : r.left ≤ 31 → r.count ≤ max_places → all valid_place (take r.count r.places) ≡ true → r.first ≤ r.last
      → allowed_name r.name ≡ true → valid_rule r ≡ true
  valid-rule-of h k e y n =
      rule-years h k e ∙ and_both (leb r.first r.last) (allowed_name r.name) (le-leb r.first r.last y) n

  pub rule-left : 31 < r.left → false ≡ valid_rule r
  unfolding valid_rule
  rule-left h = simp (lt-leb r.left 31 h)

  pub rule-count : max_places < r.count → false ≡ valid_rule r
  unfolding valid_rule
  rule-count h = simp (lt-leb r.count 8 h, and-false)

  -- b is what the test of the used places says
  module _ (b : Bool) (e : b ≡ list_all valid_place (take r.count r.places)) where
    places-read : all valid_place (take r.count r.places) ≡ b
    places-read = all-list valid_place (take r.count r.places) ∙ sym e

    pub rule-places : not b ≡ true → false ≡ valid_rule r
    unfolding valid_rule
    rule-places t = simp (places-read ∙ not-true b t, and-false)

    module _ (t : not b ≡ false) (k : r.count ≤ max_places) (l : r.left ≤ 31) where
      rule-read : valid_rule r ≡ (leb r.first r.last && allowed_name r.name)
      rule-read = rule-years l k (places-read ∙ not-false b t)

      pub rule-reversed : r.last < r.first → leb r.first r.last ≡ valid_rule r
      rule-reversed y = sym (rule-read ∙ rw (lt-leb r.first r.last y))

      pub rule-passes : r.first ≤ r.last → (c : Bool) → c ≡ allowed_name r.name → c ≡ valid_rule r
      rule-passes y c n = sym (rule-read ∙ rw (le-leb r.first r.last y) (sym n))

module _ (g : Grammar) where
  -- once all else is checked, the names together decide
  grammar-names : g.start ≤ 31 → g.count ≤ max_rules → all valid_rule (take g.count g.rules) ≡ true
      → valid_grammar g ≡ distinct_names (names_of g)
  unfolding valid_grammar
  grammar-names h k e = simp (le-leb g.start 31 h, le-leb g.count max_rules k, e)

  pub valid-grammar-of : g.start ≤ 31 → g.count ≤ max_rules → all valid_rule (take g.count g.rules) ≡ true
      → distinct_names (names_of g) ≡ true → valid_grammar g ≡ true
  valid-grammar-of h k e d = grammar-names h k e ∙ d

  pub grammar-start : 31 < g.start → false ≡ valid_grammar g
  unfolding valid_grammar
  grammar-start h = simp (lt-leb g.start 31 h)

  pub grammar-count : max_rules < g.count → false ≡ valid_grammar g
  unfolding valid_grammar
  grammar-count h = simp (lt-leb g.count max_rules h, and-false)

  pub grammar-rule : (i : ℕ) (b : Bool) → b ≡ valid_rule (get_or (take g.count g.rules) i no_rule) → not b ≡ true
      → i < length (take g.count g.rules) → false ≡ valid_grammar g
  unfolding valid_grammar
  grammar-rule i b e t h =
      let f = all-refuses valid_rule no_rule no_rule-valid (take g.count g.rules) _ i h (sym e ∙ not-true b t) in
      simp (rw take-length at f, and-false)

  -- two used rules of the same name
  pub grammar-same-names : distinct_names (names_of g) ≡ false → false ≡ valid_grammar g
  unfolding valid_grammar
  grammar-same-names e = simp (e, and-false)

  pub grammar-passes : (i : ℕ) → g.count ≤ max_rules → g.start ≤ 31 → all valid_rule (take i (take g.count g.rules)) ≡ true
      → distinct_names (map (λ (r : Rule). r.name) (take i (take g.count g.rules))) ≡ true → length (take g.count g.rules) ≤ i
      → true ≡ valid_grammar g
  grammar-passes i k l e d m =
      let w : take i (take g.count g.rules) ≡ take g.count g.rules = take_all i (take g.count g.rules) m in
      sym (valid-grammar-of l k (rw w at e) (rw w at d))
