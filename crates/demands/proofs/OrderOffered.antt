-- Refusal 12 of next, length and same build is given exactly if what is offered is no derivation of the input. Assumes nothing.
use Prim.Native.Nat.{ℕ}
use mathlib.Core.Bool.{true}
use mathlib.Core.List.{List, [], ◌∷◌}
use mathlib.Core.Logic.{◌⊎◌, inl, inr, ⊎_elim}
use mathlib.Core.Path.{◌≡◌, refl, sym, ap, ◌∙◌}
use Rattle.cfg.specs.Grammar.{Cfg}
use Rattle.cfg.specs.Derivation.{Derivation, limit}
use Rattle.grammar.specs.View.{Dated, grammar_of}
use Rattle.laws.proofs.Bools.{true-false, by-test}
use Rattle.results.specs.Answer.{Answer, refused, check}
use Rattle.results.specs.Check.{Checking, on_input}
use Rattle.results.specs.Measure.{unlisted, length_in, length_of, same_build_in, same_build_of}
use Rattle.results.specs.Enumerate.{Enumeration, next_in, next_of}
use Rattle.results.specs.Ready.{Ready, ReadyOut}
use Rattle.demands.specs.Cause.{Decided}
use Rattle.demands.specs.Order.{cause12, NoRefusal}
use Rattle.demands.specs.OrderAfter.{OfferedOrder}
use Rattle.results.proofs.Answers.{answered-apart}
use Rattle.results.proofs.Goes.{on_input-passed, next-passed}
use Rattle.demands.proofs.Decided.{Tells, decided}
use Rattle.demands.proofs.Later.{handing-refused}
use Rattle.demands.proofs.Listed.{derivation→offered, offered→derivation}

module _ (g : Dated) (w : List ℕ) where
  -- the row is a derivation of the input
  abbrev pub Offered : List ℕ → Type 0
  Offered e = Derivation (grammar_of g) limit w e

  -- it is, or it is not in L
  offered-or : (e : List ℕ) → (unlisted (grammar_of g) w e ≡ true) ⊎ Offered e
  offered-or e = by-test (unlisted (grammar_of g) w e) (λ p. inl p) (λ p. inr (offered→derivation g w e p))

  pub tells12 : (e : List ℕ) → Tells (check (unlisted (grammar_of g) w e) 12) (cause12 (Offered e))
  tells12 e = record {
    exact = (λ p d. true-false p (derivation→offered g w e d), λ f. ⊎_elim (λ p. p) (λ d. absurd (f d)) (offered-or e));
    same = refl;
  }

  -- causes for two rows, one after the other, are one cause for both
  both : {A : Type 0} (a b : List ℕ) (answer : Answer A)
      → Decided (cause12 (Offered a) ∷ cause12 (Offered b) ∷ []) refused NoRefusal answer
      → Decided (cause12 (Offered a × Offered b) ∷ []) refused NoRefusal answer
  unfolding Decided
  both a b answer D = (
    λ f. ⊎_elim (λ p. D.0 ((tells12 a).exact.0 p)) (λ d. (D.1 (λ n. n d)).0 (λ e. f (d, e))) (offered-or a),
    λ f. (D.1 (λ n. f (λ d. n d.0))).1 (λ n. f (λ d. n d.1)),
  )

  -- the refusals after the checks 8 to 11
  after : {A ready offered : Type 0} {answer later : Answer A} → (ready → answer ≡ later)
      → Decided (cause12 offered ∷ []) refused NoRefusal later → OfferedOrder ready offered answer
  unfolding Decided
  after p D = record { twelve = λ r f. p r ∙ D.0 f; passed = λ r d n e. D.1 (λ f. f d) n (sym (p r) ∙ e) }

module _ (g : Dated) (w chart : List ℕ) where
  input-answer : {A : Type 0} (go : Cfg → Checking A) → Ready g w chart → (on_input g w chart go).answer ≡ (go (grammar_of g)).answer
  input-answer {A} go r = ap (λ (x : Checking A). x.answer) (on_input-passed g w chart go r)

  pub length-twelve : (offered : List ℕ)
      → OfferedOrder (Ready g w chart) (Offered g w offered) (length_of g w offered chart).answer
  unfolding length_of length_in
  length-twelve offered =
      after g w (input-answer _)
      (decided refused _ (λ x. x) NoRefusal (λ n e. answered-apart e) _ _ (tells12 g w offered, tt))

  pub same-build-twelve : (a b : List ℕ)
      → OfferedOrder (Ready g w chart) (Offered g w a × Offered g w b) (same_build_of g w a b chart).answer
  unfolding same_build_of same_build_in
  same-build-twelve a b =
      after g w (input-answer _)
      (both g w a b _
      (decided refused _ (λ x. x) NoRefusal (λ n e. answered-apart e) _ _ (tells12 g w a, (tells12 g w b, tt))))

pub next-twelve : (g : Dated) (w chart out offered : List ℕ)
    → OfferedOrder (ReadyOut g w chart out) (Offered g w offered) (next_of g w offered chart out).answer
unfolding next_in
next-twelve g w chart out offered =
    after g w (λ r. ap (λ (x : Enumeration). x.answer) (next-passed g w chart out r offered))
    (decided _ _ (λ (x : Enumeration). x.answer) NoRefusal (λ n e. answered-apart (handing-refused _ _ _ _ n e)) _ _
    (tells12 g w offered, tt))
