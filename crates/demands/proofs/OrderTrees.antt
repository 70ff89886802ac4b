-- Refusal 13 of first and count is given exactly if the input has a tree and no derivation. Assumes nothing.
use Prim.Native.Nat.{ℕ}
use mathlib.Core.List.{List}
use mathlib.Core.Logic.{◌⊎◌, inl, inr}
use mathlib.Core.Path.{◌≡◌, ap}
use native.Mathlib.Omega.{arith}
use lib.ListN.{length}
use Rattle.cfg.specs.Tree.{HasTree}
use Rattle.cfg.specs.Derivation.{Derivation, limit}
use Rattle.grammar.specs.View.{Dated, grammar_of}
use Rattle.results.specs.Answer.{refused}
use Rattle.results.specs.Enumerate.{first_of, count_of}
use Rattle.results.specs.Ready.{Ready, ReadyOut}
use Rattle.results.specs.Demand3.{Larger}
use Rattle.results.proofs.Answers.{answered-apart}
use Rattle.results.proofs.Demand3.Listed.{L-none}
use Rattle.results.proofs.Demand3.Consequences.{count_by, count-larger, first_by, larger-exact}
use Rattle.demands.specs.OrderAfter.{TreesOrder}
use Rattle.demands.proofs.Listed.{none→empty}

module _ (g : Dated) (w : List ℕ) where
  -- without a derivation all trees are larger
  none→larger : HasTree (grammar_of g) w → ((e : List ℕ) → Derivation (grammar_of g) limit w e → ⊥) → Larger g w
  none→larger t f = (t, L-none (grammar_of g) w (ap length (none→empty (grammar_of g) w f)))

  -- without a tree, or with a derivation, they are not
  not-larger : (HasTree (grammar_of g) w → ⊥) ⊎ ((e : List ℕ) × Derivation (grammar_of g) limit w e) → Larger g w → ⊥
  not-larger (inl f) l = f l.0
  not-larger (inr (e, d)) l = omega (arith, l.1 d.tree d.parse, d.small)

pub first-thirteen : (g : Dated) (w chart out : List ℕ)
    → TreesOrder (ReadyOut g w chart out) (grammar_of g) w (first_of g w chart out).answer
first-thirteen g w chart out = record {
  thirteen = λ r t f. let i = r.input in
      (larger-exact g i.valid w i.short chart i.room out r.space).1 (none→larger g w t f);
  passed = λ r c n. let i = r.input in
      first_by g i.valid w i.short chart i.room out r.space (λ a. a ≡ refused n → ⊥)
      (λ k l e. answered-apart e) (λ l e. not-larger g w c l) (λ f e. answered-apart e);
}

pub count-thirteen : (g : Dated) (w chart : List ℕ) → TreesOrder (Ready g w chart) (grammar_of g) w (count_of g w chart).answer
count-thirteen g w chart = record {
  thirteen = λ r t f. (count-larger g r.valid w r.short chart r.room).1 (none→larger g w t f);
  passed = λ r c n. count_by g r.valid w r.short chart r.room (λ a. a ≡ refused n → ⊥)
      (λ l h e. answered-apart e) (λ l e. answered-apart e) (λ l e. not-larger g w c l) (λ f e. answered-apart e);
}
