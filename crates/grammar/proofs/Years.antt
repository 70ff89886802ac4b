-- The grammar of a year: which numbers have a rule in it, that this is the rule of the whole grammar, and that a grammar all of whose rules
-- hold in all years has one abstract grammar. Assumes nothing.
use Prim.Native.Nat.{ℕ, zero, suc, ◌≤◌, ◌<◌}
use native.Mathlib.Nat.{le_of_suc-le-suc, not-suc-le-zero}
use native.Mathlib.Omega.{arith}
use mathlib.Core.Bool.{Bool, true, false, cond, ◌&&◌}
use mathlib.Core.List.{List, [], ◌∷◌, map}
use mathlib.Core.Option.{Option, none, some, some-injective}
use mathlib.Core.Path.{◌≡◌, refl, sym, ap, ap₂, ◌∙◌}
use lib.Dec.{eqb, leb}
use lib.ListN.{take, get_elem?}
use borrow.Author.Tests.{eqb-true, leb-true, le-leb}
use Rattle.laws.proofs.Bools.{and_parts, and_both, clash}
use Rattle.cfg.specs.Grammar as Abstract
use Rattle.cfg.specs.Grammar.{joined, rule}
use Rattle.grammar.specs.declared.Rule.{Rule}
use Rattle.grammar.specs.declared.Grammar.{Grammar}
use Rattle.grammar.specs.Setters.{last_year}
use Rattle.grammar.specs.Valid.{all}
use Rattle.grammar.specs.View.{rule_of, rule_in_year, whole_of, dated, grammar_of}
use Rattle.grammar.specs.Years.{InForce, always, all_years}

-- ---- one rule in a year

module _ (y : ℕ) (ρ : Rule) where
  -- in a year of its span a rule is there
  pub in_span : ρ.first ≤ y → y ≤ ρ.last → rule_in_year y ρ ≡ rule_of ρ
  in_span h k = ap (λ (b : Bool). cond b (rule_of ρ) none)
      (and_both (leb ρ.first y) (leb y ρ.last) (le-leb ρ.first y h) (le-leb y ρ.last k))

  -- a rule that is there is in a year of its span
  there : (σ : Abstract.Rule) → rule_in_year y ρ ≡ some σ → (ρ.first ≤ y) × (y ≤ ρ.last)
  there σ e = go (leb ρ.first y) (leb y ρ.last) refl refl e
    where
      go : (a b : Bool) → leb ρ.first y ≡ a → leb y ρ.last ≡ b → cond (a && b) (rule_of ρ) none ≡ some σ
          → (ρ.first ≤ y) × (y ≤ ρ.last)
      go true true p q e = (leb-true ρ.first y p, leb-true y ρ.last q)
      go true false p q e = clash cc
      go false b p q e = clash cc

-- ---- rules by number

module _ (view : Rule → Option Abstract.Rule) where
  -- a number that has a rule is used, and its record shows the rule
  shown : (l : List Rule) (n r : ℕ) (σ : Abstract.Rule) → joined (get_elem? (map view (take n l)) r) ≡ some σ
      → (r < n) × (ρ : Rule) × (get_elem? l r ≡ some ρ) × (view ρ ≡ some σ)
  unfolding joined
  shown l zero r σ e = clash cc
  shown [] (suc n) r σ e = clash cc
  shown (ρ ∷ l) (suc n) zero σ e = (omega arith, ρ, refl, e)
  shown (ρ ∷ l) (suc n) (suc r) σ e = let (h, ρ', p, q) = shown l n r σ e in (omega (arith, h), ρ', p, q)

  seen : (l : List Rule) (n r : ℕ) (ρ : Rule) → r < n → get_elem? l r ≡ some ρ → joined (get_elem? (map view (take n l)) r) ≡ view ρ
  unfolding joined
  seen [] n r ρ h e = clash cc
  seen (a ∷ l) zero r ρ h e = absurd (not-suc-le-zero h)
  seen (a ∷ l) (suc n) zero ρ h e = ap view (some-injective a ρ e)
  seen (a ∷ l) (suc n) (suc r) ρ h e = seen l n r ρ (le_of_suc-le-suc h) e

module _ (g : Grammar) (y r : ℕ) where
  pub in-force-rule : InForce g y r → (σ : Abstract.Rule) × (rule (grammar_of (dated g y)) r ≡ some σ)
  in-force-rule i =
      (_, seen (rule_in_year y) g.rules g.count r i.the i.used i.here ∙ in_span y i.the i.begun i.lasting)

  pub rule-in-force : (σ : Abstract.Rule) → rule (grammar_of (dated g y)) r ≡ some σ → InForce g y r
  rule-in-force σ e =
      let (h, ρ, p, q) = shown (rule_in_year y) g.rules g.count r σ e in
      let (first, last) = there y ρ σ q in
      record { used = h; the = ρ; here = p; begun = first; lasting = last }

  -- it is the rule of this number in the whole grammar
  pub rule-whole : (σ : Abstract.Rule) → rule (grammar_of (dated g y)) r ≡ some σ → rule (whole_of g) r ≡ some σ
  rule-whole σ e =
      let (h, ρ, p, q) = shown (rule_in_year y) g.rules g.count r σ e in
      let (first, last) = there y ρ σ q in
      seen rule_of g.rules g.count r ρ h p ∙ sym (in_span y ρ first last) ∙ q

-- ---- grammars all of whose rules hold in all years

module _ (y : ℕ) (small : y ≤ last_year) where
  always-in : (ρ : Rule) → always ρ ≡ true → rule_in_year y ρ ≡ rule_of ρ
  always-in ρ e =
      let (p, q) = and_parts (eqb ρ.first 0) (leb last_year ρ.last) e in
      in_span y ρ (omega (arith, eqb-true ρ.first 0 p)) (omega (arith, leb-true last_year ρ.last q))

  rules-always : (l : List Rule) → all always l ≡ true → map (rule_in_year y) l ≡ map rule_of l
  unfolding all
  rules-always [] e = refl
  rules-always (ρ ∷ l) e =
      let (p, q) = and_parts (always ρ) (all always l) e in
      ap₂ ◌∷◌ (always-in ρ p) (rules-always l q)

pub year-any : (g : Grammar) → all_years g ≡ true → (y : ℕ) → y ≤ last_year → grammar_of (dated g y) ≡ whole_of g
unfolding all_years
year-any g e y small =
    ap (λ (rules : List (Option Abstract.Rule)). record { start = g.start; rules = rules })
    (rules-always y small (take g.count g.rules) e)
