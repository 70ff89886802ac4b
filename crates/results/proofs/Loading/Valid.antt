-- Each command of a book keeps the grammar read so far valid, and its array of rules as long as it is. Assumes nothing.
use Prim.Native.Nat.{ℕ, ◌-◌, ◌≤◌, ◌<◌}
use native.Mathlib.Omega.{arith}
use mathlib.Core.Bool.{true, false, not}
use mathlib.Core.List.{List}
use mathlib.Core.Path.{◌≡◌, refl, ◌∙◌}
use lib.IntN.{ℤ}
use lib.ListN.{length}
use Rattle.sizes.specs.Sizes.{max_rules, max_places}
use Rattle.laws.proofs.Bools.{or-neither}
use Rattle.theory_words.specs.Name.{valid_name, unnamed, has_name}
use Rattle.grammar.specs.declared.Symbol.{Symbol}
use Rattle.grammar.specs.declared.Grammar.{Grammar}
use Rattle.grammar.specs.Setters.{last_year, opened_rule, placed_rule, set_name}
use Rattle.grammar.specs.Valid.{all, valid_symbol, names_of, distinct_names, valid_grammar}
use Rattle.grammar.proofs.Bounds.{valid-each}
use Rattle.grammar.proofs.Setters.{opened-valid, placed-valid, set-start-valid, next-rule-valid, last-rule-valid, named-valid}
use Rattle.grammar.proofs.Setters.{set-rule-size}
use Rattle.results.specs.Load.{operand, given_name, open_rule, with_start, with_rule, with_place, with_name, refused_name}
use Rattle.results.proofs.Loading.Commands.{unrefused-valid, Invariant}

module _ (g : Grammar) (v : valid_grammar g ≡ true) where
  with-rule-valid : (k : ℕ) (z : ℤ) (first last : ℕ) → k ≤ 31 → first ≤ last → g.count < max_rules
      → valid_grammar (with_rule g k z first last) ≡ true
  unfolding with_rule unnamed
  with-rule-valid k z first last h y m = next-rule-valid g v (opened_rule k z first last) (opened-valid k z first last h y) refl m

  with-place-valid : (s : Symbol) → 0 < g.count → (open_rule g).count < max_places → valid_symbol s ≡ true
      → valid_grammar (with_place g s) ≡ true
  unfolding with_place open_rule
  with-place-valid s m h u =
      let w = placed-valid (open_rule g) s (valid-each g v (g.count - 1) (omega arith)) h u in
      last-rule-valid g v (placed_rule (open_rule g) s) w m refl

  with-name-valid : (name : List ℕ) → 0 < g.count → refused_name g name ≡ false → valid_grammar (with_name g name) ≡ true
  unfolding with_name open_rule refused_name
  with-name-valid name m r =
      named-valid g v name m (unrefused-valid g name r) (or-neither (not (valid_name name)) (has_name name (names_of g)) r).1

module _ (bytes : List ℕ) where
  pub valid-invariant : Invariant bytes (λ at g. valid_grammar g ≡ true)
  unfolding valid_grammar all distinct_names with_start
  valid-invariant = record {
    zero = refl;
    start = λ at g v e h. set-start-valid g v (operand bytes at 0) h;
    rule = λ at g v h m. with-rule-valid g v (operand bytes at 0) _ 0 last_year h (omega arith) m;
    years = λ at g v h y m. with-rule-valid g v (operand bytes at 0) _ _ _ h y m;
    place = λ at g v s e u m h. with-place-valid g v s m h u;
    name = λ at g v m o r. with-name-valid g v (given_name (operand bytes at)) m r;
  }

  pub size-invariant : Invariant bytes (λ at g. length g.rules ≡ max_rules)
  unfolding with_start with_rule with_place with_name
  size-invariant = record {
    zero = refl;
    start = λ at g z e h. z;
    rule = λ at g z h m. set-rule-size g g.count (opened_rule (operand bytes at 0) _ _ _) ∙ z;
    years = λ at g z h y m. set-rule-size g g.count (opened_rule (operand bytes at 0) _ _ _) ∙ z;
    place = λ at g z s e u m h. set-rule-size g (g.count - 1) (placed_rule (open_rule g) s) ∙ z;
    name = λ at g z m o r. set-rule-size g (g.count - 1) (set_name (open_rule g) (given_name (operand bytes at))) ∙ z;
  }
