-- What the checks of a call decide, by how they were judged: the refusal of the first that fails, or the call goes on. Assumes nothing.
use Prim.Native.Nat.{ℕ}
use Rattle.std.proofs.Common.{Ok, Err}
use mathlib.Core.Bool.{not}
use mathlib.Core.List.{List, [], ◌∷◌, ◌++◌}
use mathlib.Core.Path.{◌≡◌, sym, ap, ap₂, ◌∙◌}
use lib.ListN.{length}
use borrow.Author.Tests.{lt-ltb}
use Rattle.sizes.specs.Sizes.{cells, output_size}
use Rattle.cfg.specs.Grammar.{Cfg}
use Rattle.grammar.specs.declared.Grammar.{Grammar}
use Rattle.grammar.specs.View.{dated, grammar_of}
use Rattle.answers.specs.declared.Refusal.{Refusal}
use Rattle.answers.specs.Number.{number_of}
use Rattle.results.specs.Answer.{Answer, refused, Check, decide}
use Rattle.results.specs.Recognize.{grammar_check, chart_check}
use Rattle.results.specs.Check.{input_check, input_checks, Checking, on_input}
use Rattle.results.specs.Enumerate.{output_check}
use Rattle.results.proofs.Decide.{decide-first, decide-passed}
use Rattle.results.specs.Ready.{Ready}
use Rattle.results.proofs.Passed.{input-fails, input-passes, ready→pass, ready_out→pass}
use Rattle.fill_input.specs.Given.{checking_of}
use Rattle.fill_input.specs.Judging.{Judging, passed, invalid, long_input, no_room}
use Rattle.fill_input.specs.Judging.{JudgingOutput, all_passed, before, no_space}

ready : (g : Grammar) (y : ℕ) (w chart : List ℕ) {u : Unit {0}} → Judging g (length w) (length chart) (Ok u) → Ready (dated g y) w chart
ready g y w chart (passed v b l) = record { valid = v; short = b; room = l }

module _ (g : Grammar) (y : ℕ) (w chart : List ℕ) {B : Type 0} (refuse : ℕ → B) (go : Unit {0} → B) where
  -- 8, 9 or 10, whatever checks come after them
  first-fails : (rest : List (Check ℕ)) {r : Refusal} → Judging g (length w) (length chart) (Err r)
      → decide (input_checks (dated g y) w chart ++ rest) refuse go ≡ refuse (number_of r)
  first-fails rest (invalid v) = decide-first refuse go [] (grammar_check g) (input_check w ∷ chart_check chart ∷ rest) tt (ap not v)
  first-fails rest (long_input v l) =
      decide-first refuse go (grammar_check g ∷ []) (input_check w) (chart_check chart ∷ rest) (ap not v, tt) (input-fails w l)
  first-fails rest (no_room v b l) =
      decide-first refuse go (grammar_check g ∷ input_check w ∷ []) (chart_check chart) rest (ap not v, (input-passes w b, tt))
      (lt-ltb (length chart) cells l)

  -- ---- checks 8, 9 and 10

  pub input-refused : {r : Refusal} → Judging g (length w) (length chart) (Err r)
      → decide (input_checks (dated g y) w chart) refuse go ≡ refuse (number_of r)
  input-refused p = first-fails [] p

  pub input-passed : {u : Unit {0}} → Judging g (length w) (length chart) (Ok u)
      → decide (input_checks (dated g y) w chart) refuse go ≡ go tt
  input-passed p = decide-passed refuse go (input_checks (dated g y) w chart) (ready→pass (dated g y) w chart (ready g y w chart p))

  -- ---- checks 8 to 11

  module _ (out : List ℕ) where
    -- all four
    abbrev checks : List (Check ℕ)
    checks = input_checks (dated g y) w chart ++ (output_check out ∷ [])

    pub output-refused : {r : Refusal} → JudgingOutput g (length w) (length chart) (length out) (Err r)
        → decide checks refuse go ≡ refuse (number_of r)
    output-refused (before p) = first-fails (output_check out ∷ []) p
    output-refused (no_space p l) =
        decide-first refuse go (input_checks (dated g y) w chart) (output_check out) [] (ready→pass (dated g y) w chart (ready g y w chart p))
        (lt-ltb (length out) output_size l)

    pub output-passed : {u : Unit {0}} → JudgingOutput g (length w) (length chart) (length out) (Ok u) → decide checks refuse go ≡ go tt
    output-passed (all_passed p l) =
        decide-passed refuse go checks (ready_out→pass (dated g y) w chart out (record { input = ready g y w chart p; space = l }))

-- ---- a call that writes no output

module _ (g : Grammar) (y : ℕ) (w chart : List ℕ) {A : Type 0} (go : Cfg → Checking A) where
  pub call-refused : {r : Refusal} → Judging g (length w) (length chart) (Err r)
      → checking_of (refused (number_of r)) chart ≡ on_input (dated g y) w chart go
  unfolding on_input
  call-refused p = sym (input-refused g y w chart _ _ p)

  pub call-passed : (chart' : List ℕ) (a : Answer A) {u : Unit {0}} → Judging g (length w) (length chart) (Ok u)
      → chart' ≡ (go (grammar_of (dated g y))).chart → a ≡ (go (grammar_of (dated g y))).answer
      → checking_of a chart' ≡ on_input (dated g y) w chart go
  unfolding on_input
  call-passed chart' a p c d =
      ap₂ (λ (x : Answer A) (y : List ℕ). checking_of x y) d c ∙ sym (input-passed g y w chart _ _ p)
