-- The laws of the setters: two records are equal if their fields are; what check 8 says after a field is set; how many rules there are.
-- Assumes nothing.
use Prim.Native.Nat.{ℕ, ◌+◌, ◌-◌, ◌≤◌, ◌<◌}
use native.Mathlib.Numerals.{add-one}
use native.Mathlib.Omega.{arith}
use mathlib.Core.Bool.{true, false, or-true}
use mathlib.Core.List.{List}
use mathlib.Core.Path.{◌≡◌, refl, ap, ap₂, ◌∙◌}
use lib.IntN.{ℤ}
use lib.ListN.{length, get_or, replicate, length-set}
use lib.Seq.{get_or-set_same}
use mir.Syntax.{w16}
use mir.Val.{SFits, to_z, of_z}
use mir.Facts.{to_z-of_z}
use Rattle.sizes.specs.Sizes.{max_rules, max_places}
use Rattle.theory_words.specs.Name.{valid_name, unnamed, has_name}
use Rattle.grammar.specs.declared.Symbol.{Symbol}
use Rattle.grammar.specs.declared.Place.{Place}
use Rattle.grammar.specs.declared.Rule.{Rule}
use Rattle.grammar.specs.declared.Grammar.{Grammar}
use Rattle.grammar.specs.Setters.{rule_with, set_name, opened_rule, placed_rule, set_start, set_count, set_depth, set_rule}
use Rattle.grammar.specs.Valid.{all, valid_symbol, valid_place, valid_rule, names_of, distinct_names, valid_grammar}
use Rattle.grammar.specs.Zero.{zero_place, no_name, no_rule}
use Rattle.grammar.proofs.All.{all_set, all-last}
use Rattle.grammar.proofs.Laws.{valid-rule-of, valid-grammar-of}
use Rattle.grammar.proofs.Bounds.{rule-parts, grammar-parts, valid-each}
use Rattle.grammar.proofs.Apart.{free}
use Rattle.grammar.proofs.Names.{names-set, names-last, names-kept, names-free}

-- ---- records of the same fields

pub rule-same : (r s : Rule) → r.left ≡ s.left → r.length ≡ s.length → r.count ≡ s.count → r.places ≡ s.places
    → r.first ≡ s.first → r.last ≡ s.last → r.name ≡ s.name → r ≡ s
rule-same r s left hundredths count places first last name =
    λ i. rule_with (left i) (hundredths i) (count i) (places i) (first i) (last i) (name i)

pub grammar-same : (g h : Grammar) → g.start ≡ h.start → g.count ≡ h.count → g.depth ≡ h.depth → g.rules ≡ h.rules → g ≡ h
grammar-same g h start count depth rules = λ i. record { start = start i; count = count i; depth = depth i; rules = rules i }

-- ---- rules

-- a rule whose length was stored in a local, and whose places are all p
pub opened_of : (k : ℕ) (y z : ℤ) (p : Place) (first last : ℕ) → z ≡ y → SFits w16 z → p ≡ zero_place
    → rule_with k (to_z w16 (of_z w16 z)) 0 (replicate max_places p) first last no_name ≡ opened_rule k y first last
opened_of k y z p first last f s e =
    ap₂ (λ (l : ℤ) (m : Place). rule_with k l 0 (replicate max_places m) first last no_name) (to_z-of_z s ∙ f) e

pub opened-valid : (k : ℕ) (z : ℤ) (first last : ℕ) → k ≤ 31 → first ≤ last → valid_rule (opened_rule k z first last) ≡ true
unfolding all unnamed
opened-valid k z first last h y = valid-rule-of (opened_rule k z first last) h (omega arith) refl y refl

pub placed-valid : (r : Rule) (s : Symbol) → valid_rule r ≡ true → r.count < max_places → valid_symbol s ≡ true
    → valid_rule (placed_rule r s) ≡ true
placed-valid r s v h e =
    let p = rule-parts r v in
    let a = all_set valid_place r.places r.count (record { symbol = s }) p.2 e in
    valid-rule-of (placed_rule r s) p.0 (omega arith) (rw add-one a) p.3 p.4

-- a rule with another name
pub set-name-valid : (r : Rule) (name : List ℕ) → valid_rule r ≡ true → valid_name name ≡ true → valid_rule (set_name r name) ≡ true
set-name-valid r name v e =
    let p = rule-parts r v in
    valid-rule-of (set_name r name) p.0 p.1 p.2 p.3 (rw e (or-true (unnamed name)))

-- ---- grammars

module _ (g : Grammar) (v : valid_grammar g ≡ true) where
  pub set-start-valid : (k : ℕ) → k ≤ 31 → valid_grammar (set_start g k) ≡ true
  set-start-valid k h = let p = grammar-parts g v in valid-grammar-of (set_start g k) h p.1 p.2 p.3

  -- check 8 does not look at the nullable depth
  pub set-depth-valid : (d : ℕ) → valid_grammar (set_depth g d) ≡ true
  set-depth-valid d = let p = grammar-parts g v in valid-grammar-of (set_depth g d) p.0 p.1 p.2 p.3

  module _ (r : Rule) (w : valid_rule r ≡ true) where
    -- one rule more, after those that are used; it has no name yet
    pub next-rule-valid : unnamed r.name ≡ true → g.count < max_rules
        → valid_grammar (set_count (set_rule g g.count r) (g.count + 1)) ≡ true
    next-rule-valid u m =
        let p = grammar-parts g v in
        let a = all_set valid_rule g.rules g.count r p.2 w in
        let b = names-set g.rules g.count r p.3 (rw u) in
        valid-grammar-of (set_count (set_rule g g.count r) (g.count + 1)) p.0 (omega arith) (rw add-one a) (rw add-one b)

    -- another last rule, of a name that no rule before it has
    last-name-valid : 0 < g.count → free r.name (names_of (set_count g (g.count - 1))) ≡ true
        → valid_grammar (set_rule g (g.count - 1) r) ≡ true
    last-name-valid m f =
        let p = grammar-parts g v in
        valid-grammar-of (set_rule g (g.count - 1) r) p.0 p.1 (all-last valid_rule g.rules g.count r m p.2 w)
        (names-last g.rules g.count r m p.3 f)

    -- another last rule of the same name
    pub last-rule-valid : 0 < g.count → r.name ≡ (get_or g.rules (g.count - 1) no_rule).name
        → valid_grammar (set_rule g (g.count - 1) r) ≡ true
    last-rule-valid m e =
        let p = grammar-parts g v in
        valid-grammar-of (set_rule g (g.count - 1) r) p.0 p.1 (all-last valid_rule g.rules g.count r m p.2 w)
        (ap distinct_names (names-kept g.rules g.count (g.count - 1) r e) ∙ p.3)

  -- the last rule with a name that no used rule has
  pub named-valid : (name : List ℕ) → 0 < g.count → valid_name name ≡ true → has_name name (names_of g) ≡ false
      → valid_grammar (set_rule g (g.count - 1) (set_name (get_or g.rules (g.count - 1) no_rule) name)) ≡ true
  named-valid name m e f =
      last-name-valid (set_name (get_or g.rules (g.count - 1) no_rule) name)
      (set-name-valid (get_or g.rules (g.count - 1) no_rule) name (valid-each g v (g.count - 1) (omega arith)) e) m
      (names-free g.rules g.count name m f)

module _ (g : Grammar) (i : ℕ) (r : Rule) where
  pub set-rule-size : length (set_rule g i r).rules ≡ length g.rules
  set-rule-size = length-set g.rules i r

  pub set-rule-at : i < length g.rules → get_or (set_rule g i r).rules i no_rule ≡ r
  set-rule-at h = get_or-set_same g.rules i r no_rule h
