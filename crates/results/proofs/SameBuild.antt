-- Same build: the rules used, node by node; what is the same in preorder is the same bag; all derivations of the empty input are one
-- build. Assumes nothing.
use Prim.Native.Nat.{ℕ, ◌≤◌}
use mathlib.Core.Bool.{Bool, true, false}
use mathlib.Core.List.{List, [], ◌∷◌, ◌++◌, append-nil, append_assoc}
use mathlib.Core.Path.{◌≡◌, refl, sym, ap, subst, ◌∙◌}
use native.Mathlib.Omega.{arith}
use lib.ListN.{length, length-append}
use borrow.Author.Tests.{eq-eqb, ne_eqb}
use Rattle.laws.proofs.Bools.{and_both}
use Rattle.cfg.specs.Grammar.{Cfg}
use Rattle.cfg.specs.Tree.{Forest, end, leaf, node, yield, code}
use Rattle.cfg.specs.Derivation.{Derivation, limit}
use Rattle.grammar.specs.Valid.{all}
use Rattle.grammar.specs.View.{Dated}
use Rattle.results.specs.Answer.{answered}
use Rattle.results.specs.Check.{Checking, on_input}
use Rattle.results.specs.Measure.{rules_used, same_built, same_build_in, same_build_of}
use Rattle.results.specs.Before.{occurrences, same_bag, same_bag_built, same_bag_build_in, same_bag_build_of}
use Rattle.results.proofs.Answers.{answered-inj, refused-apart}
use Rattle.results.proofs.Decide.{decide-both}
use Rattle.results.proofs.Demand3.Rows.{same_true, same-exact}

-- ---- the rules used, node by node

module _ (c r : ℕ) (e : List ℕ) where
  -- the rules, if the test says whether the node covers nothing
  abbrev tested : Bool → List ℕ
  tested empty = elim empty [ true ↦ rules_used e | false ↦ r ∷ rules_used e ]

  pub rules-none : c ≡ 0 → rules_used (c ∷ r ∷ e) ≡ rules_used e
  unfolding rules_used
  rules-none h = ap tested (eq-eqb c 0 h)

  pub rules-some : (c ≡ 0 → ⊥) → rules_used (c ∷ r ∷ e) ≡ r ∷ rules_used e
  unfolding rules_used
  rules-some h = ap tested (ne_eqb c 0 h)

-- one number is no node
pub rules-end : (e : List ℕ) → length e ≤ 1 → rules_used e ≡ []
unfolding rules_used
rules-end [] h = refl
rules-end (c ∷ []) h = refl
rules-end (c ∷ r ∷ e) h = absurd (omega arith)

-- ---- what is the same in preorder is the same bag

all_true : (test : ℕ → Bool) (l : List ℕ) → ((k : ℕ) → test k ≡ true) → all test l ≡ true
unfolding all
all_true test [] f = refl
all_true test (a ∷ l) f = and_both (test a) (all test l) (f a) (all_true test l f)

bag-itself : (x : List ℕ) → same_bag x x ≡ true
unfolding same_bag
bag-itself x = all_true _ (x ++ x) (λ k. eq-eqb (occurrences k x) (occurrences k x) refl)

pub built-before : (a b : List ℕ) → same_built a b ≡ true → same_bag_built a b ≡ true
built-before a b e =
    subst (λ (x : List ℕ). same_bag (rules_used a) x ≡ true) (same_true (rules_used a) (rules_used b) e) (bag-itself (rules_used a))

-- a yes of the first call is a yes of the second
abbrev YesToo : Checking Bool → Checking Bool → Type 0
YesToo x y = x.answer ≡ answered true → y.answer ≡ answered true

before-in : (G : Cfg) (w a b chart : List ℕ) → YesToo (same_build_in G w a b chart) (same_bag_build_in G w a b chart)
unfolding same_build_in same_bag_build_in
before-in G w a b chart =
    decide-both (λ x y. x ≡ answered true → y ≡ answered true) _ _ _ _ _ (λ n e. absurd (refused-apart e))
    (λ e. ap answered (built-before a b (answered-inj e)))

pub builds-before : (g : Dated) (w a b chart : List ℕ) → (same_build_of g w a b chart).answer ≡ answered true
    → (same_bag_build_of g w a b chart).answer ≡ answered true
unfolding same_build_of same_bag_build_of on_input
builds-before g w a b chart =
    decide-both YesToo _ _ _ _ _ (λ n e. absurd (refused-apart e)) (before-in _ w a b chart)

-- ---- the empty input

-- a forest over no bytes uses no rule
empty-rules : (t : Forest) (x : List ℕ) → length (yield t) ≡ 0 → rules_used (code t ++ x) ≡ rules_used x
unfolding yield code
empty-rules end x h = refl
empty-rules (leaf m rest) x h = absurd (omega arith)
empty-rules (node r below rest) x h =
    let both = length-append (yield below) (yield rest) in
    ap (λ (l : List ℕ). rules_used (length (yield below) ∷ r ∷ l)) (append_assoc (code below) (code rest) x)
    ∙ rules-none (length (yield below)) r (code below ++ (code rest ++ x)) (omega arith)
    ∙ empty-rules below (code rest ++ x) (omega arith)
    ∙ empty-rules rest x (omega arith)

module _ (G : Cfg) where
  derivation-rules : (e : List ℕ) → Derivation G limit [] e → rules_used e ≡ []
  unfolding rules_used
  derivation-rules e d =
      ap rules_used (sym d.coded ∙ sym (append-nil (code d.tree))) ∙ empty-rules d.tree [] (ap length d.parse.1)

  pub empty-built : (a b : List ℕ) → Derivation G limit [] a → Derivation G limit [] b → same_built a b ≡ true
  empty-built a b p q = (same-exact (rules_used a) (rules_used b)).1 (derivation-rules a p ∙ sym (derivation-rules b q))
