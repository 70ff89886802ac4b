-- What check 8 says of the abstract grammar: the start symbol, the left sides of its rules and the nonterminals in their places are below
-- 32; and of the declared one: it uses at most 128 rules, and each of these has at most 8 places. Assumes nothing.
use Prim.Native.Nat.{ℕ, zero, suc, ◌≤◌, ◌<◌}
use native.Mathlib.Omega.{arith}
use mathlib.Core.Bool.{Bool, true, false, cond, ◌&&◌}
use mathlib.Core.List.Memᴰ
use mathlib.Core.List.{List, [], ◌∷◌, map, Memᴰ}
use mathlib.Core.Logic.{⊎_elim}
use mathlib.Core.Option.{Option, none, some, some-injective}
use mathlib.Core.Path.{◌≡◌, sym, ap, subst, ◌∙◌}
use lib.Dec.{leb}
use lib.ListN.{length, take, get_or, get_elem?}
use lib.Seq.{get_or-take}
use Rattle.std.proofs.lemmas.List.{length-take}
use borrow.Author.Tests.{leb-true}
use Rattle.sizes.specs.Sizes.{max_rules, max_places}
use Rattle.laws.proofs.Bools.{and_parts, and-parts₃, clash}
use Rattle.theory_words.specs.Name.{allowed_name}
use Rattle.cfg.specs.Grammar as Abstract
use Rattle.cfg.specs.Grammar.{joined, Of}
use Rattle.grammar.specs.declared.Symbol.{Symbol}
use Rattle.grammar.specs.declared.Symbol.TheVariants.{Nonterminal, Terminal, Range}
use Rattle.grammar.specs.declared.Place.{Place}
use Rattle.grammar.specs.declared.Rule.{Rule}
use Rattle.grammar.specs.declared.Grammar.{Grammar}
use Rattle.grammar.specs.Valid.{all, valid_symbol, valid_place, valid_rule, names_of, distinct_names, valid_grammar}
use Rattle.grammar.specs.View.{symbol_of, place_of, rule_of, viewed_by, whole_of, in_force, rule_in_year, Dated, grammar_of}
use Rattle.grammar.specs.Zero.{no_rule}
use Rattle.grammar.proofs.All.{all-at}
use Rattle.grammar.proofs.Laws.{no_rule-valid}

-- ---- the parts of check 8

pub rule-parts : (ρ : Rule) → valid_rule ρ ≡ true
    → (ρ.left ≤ 31) × (ρ.count ≤ max_places) × (all valid_place (take ρ.count ρ.places) ≡ true) × (ρ.first ≤ ρ.last)
    × (allowed_name ρ.name ≡ true)
unfolding valid_rule
rule-parts ρ v =
    let places = all valid_place (take ρ.count ρ.places) in
    let front = leb ρ.left 31 && leb ρ.count 8 && places in
    let years = and-parts₃ front (leb ρ.first ρ.last) (allowed_name ρ.name) v in
    let p = and-parts₃ (leb ρ.left 31) (leb ρ.count 8) places years.0 in
    (leb-true ρ.left 31 p.0, leb-true ρ.count 8 p.1, p.2, leb-true ρ.first ρ.last years.1, years.2)

pub grammar-parts : (g : Grammar) → valid_grammar g ≡ true
    → (g.start ≤ 31) × (g.count ≤ max_rules) × (all valid_rule (take g.count g.rules) ≡ true) × (distinct_names (names_of g) ≡ true)
unfolding valid_grammar
grammar-parts g v =
    let rules = all valid_rule (take g.count g.rules) in
    let names = and_parts (leb g.start 31 && leb g.count max_rules && rules) (distinct_names (names_of g)) v in
    let p = and-parts₃ (leb g.start 31) (leb g.count max_rules) rules names.0 in
    (leb-true g.start 31 p.0, leb-true g.count max_rules p.1, p.2, names.1)

module _ (g : Grammar) (valid : valid_grammar g ≡ true) where
  pub valid-start : g.start < 32
  valid-start = omega (arith, (grammar-parts g valid).0)

  pub valid-count : g.count ≤ max_rules
  valid-count = (grammar-parts g valid).1

  module _ (i : ℕ) (used : i < g.count) where
    pub valid-each : valid_rule (get_or g.rules i no_rule) ≡ true
    valid-each = all-at valid_rule no_rule no_rule-valid g.rules g.count i used (grammar-parts g valid).2

  -- the same where the used rules are read one by one
  pub valid-used : (i : ℕ) → i < length (take g.count g.rules) → valid_rule (get_or (take g.count g.rules) i no_rule) ≡ true
  valid-used i h = let used : i < g.count = omega (arith, length-take g.count g.rules) in rw get_or-take (valid-each i used)

-- ---- the abstract grammar

-- the abstract rule that a declared one means
abbrev meaning : Rule → Abstract.Rule
meaning ρ = record { left = ρ.left; places = map place_of (take ρ.count ρ.places) }

-- a valid declared rule that means σ
abbrev Meant : Abstract.Rule → Type 0
Meant σ = (ρ : Rule) × (valid_rule ρ ≡ true) × (meaning ρ ≡ σ)

-- a rule that a view shows is the one that the record means
abbrev Shows : (Rule → Option Abstract.Rule) → Type 0
Shows view = (ρ : Rule) (σ : Abstract.Rule) → view ρ ≡ some σ → meaning ρ ≡ σ

whole-shows : Shows rule_of
whole-shows ρ σ e = some-injective (meaning ρ) σ e

year-shows : (y : ℕ) → Shows (rule_in_year y)
year-shows y ρ σ = go (in_force y ρ)
  where
    go : (b : Bool) → cond b (rule_of ρ) none ≡ some σ → meaning ρ ≡ σ
    go true e = whole-shows ρ σ e
    go false e = clash cc

module _ (view : Rule → Option Abstract.Rule) (shows : Shows view) where
  meant : (l : List Rule) (r : ℕ) (σ : Abstract.Rule) → all valid_rule l ≡ true → joined (get_elem? (map view l) r) ≡ some σ → Meant σ
  unfolding all joined
  meant [] r σ v e = clash cc
  meant (ρ ∷ l) zero σ v e = (ρ, (and_parts (valid_rule ρ) (all valid_rule l) v).0, shows ρ σ e)
  meant (ρ ∷ l) (suc r) σ v e = meant l r σ (and_parts (valid_rule ρ) (all valid_rule l) v).1 e

symbol-bounded : (s : Symbol) (k : ℕ) → valid_symbol s ≡ true → Abstract.nonterminal k ≡ symbol_of s → k < 32
symbol-bounded (Nonterminal m) k v e = let q : k ≡ m = cc in omega (arith, leb-true m 31 v)
symbol-bounded (Terminal m) k v e = clash cc
symbol-bounded (Range low high) k v e = clash cc

places-bounded : (l : List Place) (k : ℕ) → all valid_place l ≡ true → Memᴰ (Abstract.nonterminal k) (map place_of l) → k < 32
unfolding all
places-bounded [] k v m = absurd (Memᴰ.not-nil m)
places-bounded (p ∷ l) k v m =
    let h = and_parts (valid_place p) (all valid_place l) v in
    ⊎_elim (λ e. symbol-bounded p.symbol k h.0 e) (λ n. places-bounded l k h.1 n) (Memᴰ.cases_cons m)

-- what holds of any view
module _ (view : Rule → Option Abstract.Rule) (shows : Shows view) (g : Grammar) (valid : valid_grammar g ≡ true) (r k : ℕ)
    (o : Of (viewed_by view g) r k) where
  of-meant : Meant o.the
  of-meant = meant view shows (take g.count g.rules) r o.the (grammar-parts g valid).2 o.here

  view-bounded : k < 32
  view-bounded =
      let h : of-meant.0.left ≡ k = ap (λ (σ : Abstract.Rule). σ.left) of-meant.2 ∙ o.left in
      omega (arith, (rule-parts of-meant.0 of-meant.1).0)

  view-symbols : (j : ℕ) → Memᴰ (Abstract.nonterminal j) o.the.places → j < 32
  view-symbols j m =
      places-bounded (take of-meant.0.count of-meant.0.places) j (rule-parts of-meant.0 of-meant.1).2
      (subst (λ (σ : Abstract.Rule). Memᴰ (Abstract.nonterminal j) σ.places) (sym of-meant.2) m)

-- the left side of a rule is below 32: of the whole grammar, and of the one by which an input is read
pub whole-bounded : (g : Grammar) → valid_grammar g ≡ true → (r k : ℕ) → Of (whole_of g) r k → k < 32
whole-bounded = view-bounded rule_of whole-shows

module _ (g : Dated) (valid : valid_grammar g.grammar ≡ true) (r k : ℕ) (o : Of (grammar_of g) r k) where
  pub valid-bounded : k < 32
  valid-bounded = view-bounded (rule_in_year g.year) (year-shows g.year) g.grammar valid r k o

  -- a nonterminal in the places of a rule is below 32
  pub valid-symbols : (j : ℕ) → Memᴰ (Abstract.nonterminal j) o.the.places → j < 32
  valid-symbols = view-symbols (rule_in_year g.year) (year-shows g.year) g.grammar valid r k o
