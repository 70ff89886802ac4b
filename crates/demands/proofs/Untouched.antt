-- Whatever is handed in: refusals 8 to 11, 14 and 15 leave the chart, the output and the state as found. For a call that gives no other
-- refusals this is said of every refusal, for the others of those below 12. Assumes nothing.
use Prim.Native.Nat.{ℕ, ◌<◌}
use mathlib.Core.List.{List, []}
use mathlib.Core.Path.{◌≡◌, refl}
use native.Mathlib.Omega.{arith}
use Rattle.cfg.specs.Grammar.{Cfg}
use Rattle.grammar.specs.declared.Grammar.{Grammar}
use Rattle.grammar.specs.View.{Dated, grammar_of}
use Rattle.results.specs.Answer.{refused}
use Rattle.results.specs.Recognize.{State, state_of, Recognition, open_in, open_of, take_in, take_of}
use Rattle.results.specs.Check.{Checking, on_input, check_in, check_of}
use Rattle.results.specs.Measure.{length_of, same_build_of}
use Rattle.results.specs.Enumerate.{Enumeration, on_output, first_of, next_of, count_of}
use Rattle.results.proofs.Answers.{answered-apart}
use Rattle.results.proofs.Decide.{decide-either}
use Rattle.demands.proofs.Later.{length-later, same-build-later, count-later, first-later, next-later}

pub open-untouched : (g : Dated) (chart : List ℕ) (n : ℕ) → (open_of g chart).answer ≡ refused n
    → ((open_of g chart).chart ≡ chart) × ((open_of g chart).state ≡ state_of [] 0)
unfolding open_of open_in
open-untouched g chart n =
    decide-either _ _ (λ (x : Recognition). x.answer ≡ refused n → (x.chart ≡ chart) × (x.state ≡ state_of [] 0)) _
    (λ a e. (refl, refl)) (λ p e. absurd (answered-apart e))

pub take-untouched : (g : Grammar) (h : State) (m : ℕ) (chart : List ℕ) (n : ℕ) → (take_of g h m chart).answer ≡ refused n
    → ((take_of g h m chart).chart ≡ chart) × ((take_of g h m chart).state ≡ h)
unfolding take_of take_in
take-untouched g h m chart n =
    decide-either _ _ (λ (x : Recognition). x.answer ≡ refused n → (x.chart ≡ chart) × (x.state ≡ h)) _
    (λ a e. (refl, refl)) (λ p e. absurd (answered-apart e))

-- ---- the calls that write no output

module _ (g : Dated) (w chart : List ℕ) (n : ℕ) where
  input-untouched : {A : Type 0} (go : Cfg → Checking A) → ((go (grammar_of g)).answer ≡ refused n → ⊥)
      → (on_input g w chart go).answer ≡ refused n → (on_input g w chart go).chart ≡ chart
  unfolding on_input
  input-untouched {A} go f =
      decide-either _ _ (λ (x : Checking A). x.answer ≡ refused n → x.chart ≡ chart) _ (λ a e. refl) (λ p e. absurd (f e))

  pub check-untouched : (offered : List ℕ) → (check_of g w offered chart).answer ≡ refused n → (check_of g w offered chart).chart ≡ chart
  unfolding check_of check_in
  check-untouched offered = input-untouched _ (λ e. answered-apart e)

  pub length-untouched : (offered : List ℕ) → n < 12 → (length_of g w offered chart).answer ≡ refused n
      → (length_of g w offered chart).chart ≡ chart
  unfolding length_of
  length-untouched offered l = input-untouched _ (λ e. omega (arith, length-later _ _ w offered chart n e))

  pub same-build-untouched : (a b : List ℕ) → n < 12 → (same_build_of g w a b chart).answer ≡ refused n
      → (same_build_of g w a b chart).chart ≡ chart
  unfolding same_build_of
  same-build-untouched a b l = input-untouched _ (λ e. omega (arith, same-build-later _ w a b chart n e))

  pub count-untouched : n < 12 → (count_of g w chart).answer ≡ refused n → (count_of g w chart).chart ≡ chart
  unfolding count_of
  count-untouched l = input-untouched _ (λ e. omega (arith, count-later _ w chart n e))

-- ---- first and next

module _ (g : Dated) (w chart out : List ℕ) (n : ℕ) (low : n < 12) where
  output-untouched : (go : Cfg → Enumeration) → ((go (grammar_of g)).answer ≡ refused n → ⊥)
      → (on_output g w chart out go).answer ≡ refused n
      → ((on_output g w chart out go).chart ≡ chart) × ((on_output g w chart out go).output ≡ out)
  unfolding on_output
  output-untouched go f =
      decide-either _ _ (λ (x : Enumeration). x.answer ≡ refused n → (x.chart ≡ chart) × (x.output ≡ out)) _
      (λ a e. (refl, refl)) (λ p e. absurd (f e))

  pub first-untouched : (first_of g w chart out).answer ≡ refused n
      → ((first_of g w chart out).chart ≡ chart) × ((first_of g w chart out).output ≡ out)
  unfolding first_of
  first-untouched = output-untouched _ (λ e. omega (arith, first-later _ w chart out n e))

  pub next-untouched : (offered : List ℕ) → (next_of g w offered chart out).answer ≡ refused n
      → ((next_of g w offered chart out).chart ≡ chart) × ((next_of g w offered chart out).output ≡ out)
  unfolding next_of
  next-untouched offered = output-untouched _ (λ e. omega (arith, next-later _ w offered chart out n e))
