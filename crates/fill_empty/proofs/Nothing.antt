-- Passes over the empty span at the end n of a column, for every n: what the steps of the code give. Assumes nothing.
use Prim.Native.Nat.{ℕ, ◌+◌, ◌≤◌, ◌<◌}
use mathlib.Core.Bool.{true}
use mathlib.Core.List.{List}
use mathlib.Core.Path.{◌≡◌, refl, sym, ap, ◌∙◌, subst}
use native.Mathlib.Omega.{arith}
use lib.ListN.{length, get_or, set, length-set}
use borrow.Author.Tests.{eq-eqb}
use Rattle.sizes.specs.Sizes.{max_rules}
use Rattle.laws.proofs.Bools.{true-false}
use Rattle.laws.proofs.Lists.{set_below}
use Rattle.sets.proofs.Laws.{has-empty}
use Rattle.cfg.specs.Grammar.{Symbol}
use Rattle.chart.specs.Cell.{Fit, cuts}
use Rattle.chart.proofs.Rounds.{sub-empty}
use Rattle.packed.specs.Packed.{places_in, symbol_in}
use Rattle.packed.proofs.Laws.{places-start}
use Rattle.fill_rule.specs.Flags.{Sets, Cutting, InnerCut, inner_leaf, inner_node, owned}
use Rattle.fill_rule.specs.Passes.{Within, ClosedAt, RuleSettled, RuleMask, added_in}
use Rattle.fill_rule.proofs.Owned.{owned-here, owned-mono}
use Rattle.fill_rule.proofs.Passing.{added-le, added-within, added-same}
use Rattle.fill_empty.specs.Empty.{EmptyPassed, EmptyClosed}

-- no cut of the empty span begins inside it
no_inner : (fit : Fit) (sets : Sets) (n : ℕ) (s : Symbol) (rest : List Symbol) → InnerCut fit sets n s rest n → ⊥
no_inner fit sets n s rest (inner_leaf t e l h c) = omega arith
no_inner fit sets n s rest (inner_node k b e l m h c) = omega arith

module _ (p : List ℕ) where
  mask-exact : (r v m : ℕ) → RuleMask p r true v v 0 0 m → (fit : Fit) (sets : Sets) (n : ℕ) → Cutting fit (owned sets n n v) p r n n m
  mask-exact r v m mask fit sets n = mask.exact fit (owned sets n n v) n n (omega arith) (sym (eq-eqb n n refl)) (record {
    start = owned-here sets n n v;
    whole = owned-here sets n n v;
    inside = λ q l. (λ h. absurd (true-false h (has-empty q)), λ c. absurd (no_inner fit (owned sets n n v) n (symbol_in p r q) _ c));
    after = λ l. absurd (omega arith);
    none = λ l. refl;
  })

  pub empty-step : (rules r own v m v' : ℕ) (lasts : List ℕ) → r < rules → rules ≤ max_rules → RuleMask p r true v v 0 0 m
      → v' ≡ added_in p r m v
      → EmptyPassed p r own v lasts → EmptyPassed p (r + 1) own v' (set lasts r m)
  empty-step rules r own v m v' lasts below few mask result passed = record {
    long = length-set lasts r m ∙ passed.long;
    grows = omega (arith, le, passed.grows);
    sound = sound;
    settled = settled;
  }
    where
      le : v ≤ v'
      le = subst (λ (x : ℕ). v ≤ x) (sym result) (added-le p r m v)

      sound : (fit : Fit) (sets : Sets) (n T : ℕ) → ClosedAt fit sets p n n T → Within own T → Within v' T
      sound fit sets n T closed s =
          subst (λ (x : ℕ). Within x T) (sym result) (added-within p r m v T in_t
          (λ l h. closed r (omega arith) l (owned-mono fit sets n n v T (omega arith) in_t (places_in p r)
          (ap (λ (x : List Symbol). cuts fit (owned sets n n v) x n n) (sym (places-start p r))
          ∙ sym (mask-exact r v m mask fit sets n 0 (omega arith)) ∙ h))))
        where
          in_t : Within v T
          in_t = passed.sound fit sets n T closed s

      settled : v' ≡ own → (fit : Fit) (sets : Sets) (n s : ℕ) → s < r + 1 → RuleSettled fit sets p s n n v' (get_or (set lasts r m) s 0)
      settled e fit sets n s l =
          let f : v' ≡ v = omega (arith, le, passed.grows) in
          let h : v ≡ own = omega (arith, le, passed.grows) in
          rw f (set_below (λ (s x : ℕ). RuleSettled fit sets p s n n v x) 0 lasts r m (omega (arith, passed.long))
          (record { exact = mask-exact r v m mask fit sets n; closed = added-same p r m v (sym result ∙ f) })
          (passed.settled h fit sets n) s l)

  -- own has nothing that a closed set lacks
  pub record EmptyReached (own : ℕ) (lasts : List ℕ) : Type 0 where
    pub long : length lasts ≡ max_rules
    pub sound : (fit : Fit) (sets : Sets) (n T : ℕ) → ClosedAt fit sets p n n T → Within own T

  pub reached-start : (lasts : List ℕ) → length lasts ≡ max_rules → EmptyReached 0 lasts
  reached-start lasts long = record { long = long; sound = λ fit sets n T c. sub-empty T }

  pub reached-step : (rules own v : ℕ) (lasts lasts' : List ℕ) → EmptyReached own lasts → EmptyPassed p rules own v lasts'
      → EmptyReached v lasts'
  reached-step rules own v lasts lasts' reached passed =
      record { long = passed.long; sound = λ fit sets n T c. passed.sound fit sets n T c (reached.sound fit sets n T c) }

  pub empty-closed : (rules own v : ℕ) (lasts lasts' : List ℕ) → v ≡ own → EmptyReached own lasts → EmptyPassed p rules own v lasts'
      → EmptyClosed p rules v lasts'
  empty-closed rules own v lasts lasts' e reached passed = record {
    long = passed.long;
    sound = λ fit sets n T c. passed.sound fit sets n T c (reached.sound fit sets n T c);
    settled = passed.settled e;
  }
