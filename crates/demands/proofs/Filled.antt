-- Once checks 8 to 11 are passed, the chart is the one of opening and then taking the whole input, whatever the answer: also after
-- refusals 12 and 13, "no", "none" and "no reading". Assumes nothing.
use Prim.Native.Nat.{ℕ, ◌≤◌}
use mathlib.Core.Bool.{true}
use mathlib.Core.List.{List, []}
use mathlib.Core.Path.{◌≡◌, refl, ap, ◌∙◌}
use lib.ListN.{length}
use Rattle.sizes.specs.Sizes.{cells}
use Rattle.cfg.specs.Grammar.{Cfg}
use Rattle.chart.specs.Column.{extended_by, filled}
use Rattle.grammar.specs.Valid.{valid_grammar}
use Rattle.grammar.specs.View.{Dated, grammar_of}
use Rattle.results.specs.Recognize.{Recognition, open_in, open_of}
use Rattle.results.specs.Check.{Checking, on_input, check_in, check_of}
use Rattle.results.specs.Measure.{length_in, length_of, same_build_in, same_build_of}
use Rattle.results.specs.Enumerate.{Enumeration, first_in, first_of, next_in, next_of, count_in, count_of}
use Rattle.results.specs.Ready.{Ready, ReadyOut}
use Rattle.results.proofs.Decide.{decide-either}
use Rattle.demands.proofs.Kept.{handing-chart}
use Rattle.results.proofs.Goes.{open-passed, on_input-passed, first-passed, next-passed}

-- opening is filling with no bytes
pub open-filled : (g : Dated) (chart : List ℕ) → valid_grammar g.grammar ≡ true → cells ≤ length chart
    → (open_of g chart).chart ≡ filled (grammar_of g) [] chart
unfolding open_in filled extended_by
open-filled g chart v r = ap (λ (x : Recognition). x.chart) (open-passed g chart v r)

module _ (g : Dated) (w chart : List ℕ) (ready : Ready g w chart) where
  on_input-filled : {A : Type 0} (go : Cfg → Checking A) → (on_input g w chart go).chart ≡ (go (grammar_of g)).chart
  on_input-filled {A} go = ap (λ (x : Checking A). x.chart) (on_input-passed g w chart go ready)

  pub check-filled : (offered : List ℕ) → (check_of g w offered chart).chart ≡ filled (grammar_of g) w chart
  unfolding check_of check_in
  check-filled offered = on_input-filled _

  pub length-filled : (offered : List ℕ) → (length_of g w offered chart).chart ≡ filled (grammar_of g) w chart
  unfolding length_of length_in
  length-filled offered = on_input-filled _

  pub same-build-filled : (a b : List ℕ) → (same_build_of g w a b chart).chart ≡ filled (grammar_of g) w chart
  unfolding same_build_of same_build_in
  same-build-filled a b = on_input-filled _

  pub count-filled : (count_of g w chart).chart ≡ filled (grammar_of g) w chart
  unfolding count_of count_in
  count-filled = on_input-filled _

module _ (g : Dated) (w chart out : List ℕ) (ready : ReadyOut g w chart out) where
  pub first-filled : (first_of g w chart out).chart ≡ filled (grammar_of g) w chart
  unfolding first_in
  first-filled =
      ap (λ (x : Enumeration). x.chart) (first-passed g w chart out ready) ∙ handing-chart _ _ (filled (grammar_of g) w chart) out

  pub next-filled : (offered : List ℕ) → (next_of g w offered chart out).chart ≡ filled (grammar_of g) w chart
  unfolding next_in
  next-filled offered =
      ap (λ (x : Enumeration). x.chart) (next-passed g w chart out ready offered)
      ∙ decide-either _ _ (λ (x : Enumeration). x.chart ≡ filled (grammar_of g) w chart) _ (λ n. refl)
      (λ p. handing-chart _ _ (filled (grammar_of g) w chart) out)
