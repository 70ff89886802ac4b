-- Loading: each command keeps what is unused in the grammar read so far zero. Assumes nothing.
use Prim.Native.Nat.{ℕ, ◌-◌, ◌≤◌, ◌<◌}
use native.Mathlib.Omega.{arith}
use mathlib.Core.Bool.{true}
use mathlib.Core.List.{List}
use mathlib.Core.Path.{◌≡◌, refl, ◌∙◌}
use lib.IntN.{ℤ, pos}
use lib.ListN.{get_or, length-set}
use lib.Seq.{drop-set-lt}
use Rattle.sizes.specs.Sizes.{max_rules}
use Rattle.grammar.specs.declared.Symbol.{Symbol}
use Rattle.grammar.specs.declared.Rule.{Rule}
use Rattle.grammar.specs.declared.Grammar.{Grammar}
use Rattle.grammar.specs.Setters.{opened_rule, placed_rule, set_name}
use Rattle.grammar.specs.Valid.{valid_grammar}
use Rattle.grammar.specs.Zero.{zero_place, zero_rule, zero_grammar, no_rule}
use Rattle.grammar.proofs.Bounds.{valid-count}
use Rattle.grammar.proofs.Setters.{set-rule-size}
use Rattle.results.specs.Load.{operand, given_name, open_rule, with_start, with_rule, with_place, with_name}
use Rattle.results.proofs.Loading.Lists.{set-each, replicate-each, drop-next}
use Rattle.results.proofs.Loading.Commands.{Invariant}
use Rattle.results.proofs.Loading.Valid.{valid-invariant}
use Rattle.demands.specs.LoadDemand.{ZeroPlaces, ZeroBehind}

-- ---- rules

opened-zero : (k : ℕ) (z : ℤ) (first last : ℕ) → ZeroPlaces (opened_rule k z first last)
opened-zero k z first last = record { size = refl; unused = refl }

placed-zero : (r : Rule) (s : Symbol) → ZeroPlaces r → ZeroPlaces (placed_rule r s)
placed-zero r s Z = record {
  size = length-set r.places r.count _ ∙ Z.size;
  unused = drop-next r.places r.count 8 _ zero_place Z.unused;
}

-- ---- grammars

zero-zero : ZeroBehind zero_grammar
zero-zero = record { size = refl; unused = refl; places = replicate-each ZeroPlaces no_rule zero_rule max_rules (opened-zero 0 (pos 0) 0 0) }

module _ (g : Grammar) (Z : ZeroBehind g) where
  start-zero : (k : ℕ) → ZeroBehind (with_start g k)
  unfolding with_start
  start-zero k = record { size = Z.size; unused = Z.unused; places = Z.places }

  rule-zero : (k : ℕ) (z : ℤ) (first last : ℕ) → ZeroBehind (with_rule g k z first last)
  unfolding with_rule
  rule-zero k z first last = record {
    size = set-rule-size g g.count (opened_rule k z first last) ∙ Z.size;
    unused = drop-next g.rules g.count max_rules _ zero_rule Z.unused;
    places = set-each ZeroPlaces no_rule max_rules g.rules g.count _ Z.places (opened-zero k z first last);
  }

  place-zero : (s : Symbol) → 0 < g.count → g.count ≤ max_rules → ZeroBehind (with_place g s)
  unfolding with_place open_rule
  place-zero s m h = record {
    size = set-rule-size g (g.count - 1) (placed_rule (open_rule g) s) ∙ Z.size;
    unused = drop-set-lt g.count g.rules (g.count - 1) _ (omega arith) ∙ Z.unused;
    places = set-each ZeroPlaces no_rule max_rules g.rules (g.count - 1) _ Z.places
        (placed-zero (get_or g.rules (g.count - 1) no_rule) s (Z.places (g.count - 1) (omega arith)));
  }

  name-zero : (name : List ℕ) → 0 < g.count → g.count ≤ max_rules → ZeroBehind (with_name g name)
  unfolding with_name open_rule
  name-zero name m h = record {
    size = set-rule-size g (g.count - 1) (set_name (open_rule g) name) ∙ Z.size;
    unused = drop-set-lt g.count g.rules (g.count - 1) _ (omega arith) ∙ Z.unused;
    places = let P = Z.places (g.count - 1) (omega arith) in
        set-each ZeroPlaces no_rule max_rules g.rules (g.count - 1) _ Z.places (record { size = P.size; unused = P.unused });
  }

-- a grammar that check 8 lets through and in which what is unused is zero
pub record Tidy (g : Grammar) : Type 0 where
  pub valid : valid_grammar g ≡ true
  pub behind : ZeroBehind g

pub tidy-invariant : (bytes : List ℕ) → Invariant bytes (λ at g. Tidy g)
tidy-invariant bytes = let kept = valid-invariant bytes in record {
  zero = record { valid = kept.zero; behind = zero-zero };
  start = λ at g T e h. record { valid = kept.start at g T.valid e h; behind = start-zero g T.behind (operand bytes at 0) };
  rule = λ at g T h m. record { valid = kept.rule at g T.valid h m; behind = rule-zero g T.behind (operand bytes at 0) _ _ _ };
  years = λ at g T h y m. record {
    valid = kept.years at g T.valid h y m;
    behind = rule-zero g T.behind (operand bytes at 0) _ _ _;
  };
  place = λ at g T s e u m h. record {
    valid = kept.place at g T.valid s e u m h;
    behind = place-zero g T.behind s m (valid-count g T.valid);
  };
  name = λ at g T m o r. record {
    valid = kept.name at g T.valid m o r;
    behind = name-zero g T.behind (given_name (operand bytes at)) m (valid-count g T.valid);
  };
}
