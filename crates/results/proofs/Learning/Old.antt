-- The rules of the old grammar are those of the longer one, under the same numbers: of the whole grammar, and in every year. Assumes nothing.
use Prim.Native.Nat.{ℕ, zero, suc, ◌+◌, ◌≤◌, ◌<◌}
use native.Mathlib.Decide.{dec_lt}
use native.Mathlib.Nat.{le_of_suc-le-suc, not-suc-le-zero}
use native.Mathlib.Omega.{arith}
use mathlib.Core.Bool.{true}
use mathlib.Core.List.{List, [], ◌∷◌, map}
use mathlib.Core.Logic.{dite}
use mathlib.Core.Option.{Option, none, some}
use mathlib.Core.Path.{◌≡◌, refl, sym, ap, ◌∙◌}
use lib.ListN.{take, get_elem?}
use Rattle.laws.proofs.Bools.{clash}
use Rattle.cfg.specs.Grammar as Abstract
use Rattle.cfg.specs.Grammar.{joined, rule}
use Rattle.cfg.specs.Nullable.{depth_of}
use Rattle.grammar.specs.declared.Rule.{Rule}
use Rattle.grammar.specs.declared.Grammar.{Grammar}
use Rattle.grammar.specs.Valid.{valid_grammar}
use Rattle.grammar.specs.View.{viewed_by, rule_of, whole_of, rule_in_year, dated, grammar_of}
use Rattle.grammar.proofs.RuleAt.{rule-past}
use Rattle.theory_tidying.specs.Tidying.{tidied, Shaped}
use Rattle.theory_tidying.proofs.Tidied.{tidied-whole, tidied-in-year}
use Rattle.results.specs.Learn.{longer, enlarged}
use Rattle.results.proofs.Learning.Enlarged.{LongerBy, enlarged-longer, Extends, extends-zero, extends-invariant}

-- the first n elements of a list are among its first k
among : {A B : Type 0} (f : A → B) (l : List A) (n k r : ℕ) → r < n → n ≤ k
    → get_elem? (map f (take n l)) r ≡ get_elem? (map f (take k l)) r
among f l zero k r h i = absurd (not-suc-le-zero h)
among f l (suc n) zero r h i = absurd (not-suc-le-zero i)
among f [] (suc n) (suc k) r h i = refl
among f (a ∷ l) (suc n) (suc k) zero h i = refl
among f (a ∷ l) (suc n) (suc k) (suc r) h i = among f l n k r (le_of_suc-le-suc h) (le_of_suc-le-suc i)

module _ (g g' : Grammar) (bytes : List ℕ) (e : enlarged g bytes ≡ longer g') where
  abbrev read : LongerBy bytes (Extends (tidied g)) g'
  read = enlarged-longer (extends-invariant (tidied g) bytes) g g' (extends-zero (tidied g)) e

  pub enlarged-start : g'.start ≡ g.start
  unfolding tidied
  enlarged-start = ap (λ (h : Grammar). h.start) read.same ∙ read.holds.start

  -- it has one rule more
  pub enlarged-count : g'.count ≡ g.count + 1
  unfolding tidied
  enlarged-count = ap (λ (h : Grammar). h.count) read.same ∙ read.holds.more read.later

  -- its nullable depth is exact
  pub enlarged-depth : g'.depth ≡ depth_of (whole_of g')
  enlarged-depth = ap (λ (h : Grammar). h.depth) read.same ∙ ap (λ (h : Grammar). depth_of (whole_of h)) (sym read.same)

  -- a rule that a view shows of the grammar without rubbish, it shows of the longer one
  viewed-rule : (view : Rule → Option Abstract.Rule) (r : ℕ) (ρ : Abstract.Rule) → rule (viewed_by view (tidied g)) r ≡ some ρ
      → rule (viewed_by view g') r ≡ some ρ
  viewed-rule view r ρ p = dite (dec_lt r (tidied g).count)
      (λ h. let more = read.holds.more read.later in
      ap (λ (x : Grammar). rule (viewed_by view x) r) read.same
      ∙ ap joined (sym (ap (λ (l : List Rule). get_elem? (map view l) r) (sym read.holds.rules)
      ∙ among view read.read.rules (tidied g).count read.read.count r h (omega arith))) ∙ p)
      (λ h. let q : none ≡ some ρ = sym (rule-past view (tidied g) r (omega arith)) ∙ p in clash cc)

  module _ (S : Shaped g) (valid : valid_grammar g ≡ true) (r : ℕ) (ρ : Abstract.Rule) where
    pub whole-rule : rule (whole_of g) r ≡ some ρ → rule (whole_of g') r ≡ some ρ
    whole-rule p = viewed-rule rule_of r ρ (ap (λ (G : Abstract.Cfg). rule G r) (tidied-whole g S valid) ∙ p)

    pub year-rule : (y : ℕ) → rule (grammar_of (dated g y)) r ≡ some ρ → rule (grammar_of (dated g' y)) r ≡ some ρ
    year-rule y p = viewed-rule (rule_in_year y) r ρ (ap (λ (G : Abstract.Cfg). rule G r) (tidied-in-year g S valid y) ∙ p)
