-- What `next` answers, from the checks, from whether the offered row is a derivation, and from the answer over the filled chart.
-- Assumes nothing.
use Prim.Native.Nat.{ℕ}
use Rattle.std.proofs.Common.{Ok, Err}
use mathlib.Core.Bool.{Bool, true, false, not}
use mathlib.Core.List.{List, [], ◌∷◌}
use mathlib.Core.Path.{◌≡◌, sym, ap, ◌∙◌}
use lib.ListN.{length}
use Rattle.cfg.specs.Listing.{L}
use Rattle.grammar.specs.declared.Grammar.{Grammar}
use Rattle.grammar.specs.View.{dated, grammar_of}
use Rattle.answers.specs.declared.Refusal.{Refusal}
use Rattle.answers.specs.Number.{number_of}
use Rattle.packed.specs.Packed.{cfg_in}
use Rattle.fill_input.specs.Judging.{JudgingOutput}
use Rattle.fill_input.proofs.Deciding.{output-refused, output-passed}
use Rattle.fill_input.proofs.Packing.{list-packed}
use Rattle.results.specs.Answer.{Answer, Handing, refused, check}
use Rattle.results.specs.Check.{listed}
use Rattle.results.specs.Enumerate.{Enumeration, on_output, next_in, next_of}
use Rattle.results.specs.Measure.{unlisted}
use Rattle.results.proofs.Decide.{decide-first, decide-passed}
use Rattle.first_made.specs.Written.{enumeration_of}
use Rattle.first.proofs.Chart.{Filling}
use Rattle.next_made.specs.Made.{next_tree}
use Rattle.next.specs.Answer.{next_filled}

-- ---- whether the offered row is a derivation

module _ (p w : List ℕ) (s : ℕ) (offered chart out : List ℕ) (b : Bool) (told : b ≡ listed offered (L (cfg_in s p) w)) where
  pub is-listed : b ≡ true → listed offered (L (cfg_in s p) w) ≡ true
  is-listed h = sym told ∙ h

  pub next-other : b ≡ false → enumeration_of (refused 12) chart out ≡ next_filled (cfg_in s p) w offered chart out
  unfolding unlisted
  next-other h = sym (decide-first _ _ [] (check (unlisted (cfg_in s p) w offered) 12) [] tt (ap not (sym told ∙ h)))

  pub next-listed : b ≡ true → (x : Enumeration) → x ≡ next_tree (cfg_in s p) w offered chart out
      → x ≡ next_filled (cfg_in s p) w offered chart out
  unfolding unlisted
  next-listed h x f =
      f ∙ sym (decide-passed (λ n. enumeration_of (refused n) chart out) (λ _. next_tree (cfg_in s p) w offered chart out)
      (check (unlisted (cfg_in s p) w offered) 12 ∷ []) (ap not (is-listed h), tt))

-- ---- the call

module _ (g : Grammar) (y : ℕ) (w offered chart out : List ℕ) where
  pub next-refused : {r : Refusal} → JudgingOutput g (length w) (length chart) (length out) (Err r)
      → enumeration_of (refused (number_of r)) chart out ≡ next_of (dated g y) w offered chart out
  unfolding next_of on_output
  next-refused judging = sym (output-refused g y w chart _ _ out judging)

  module _ {u : Unit {0}} (judging : JudgingOutput g (length w) (length chart) (length out) (Ok u)) (p chart' : List ℕ)
      (filling : Filling g y p w chart chart') (s : ℕ) (start : s ≡ g.start) where
    -- over the grammar that was packed
    over-packed : next_filled (cfg_in s p) w offered chart' out ≡ next_in (grammar_of (dated g y)) w offered chart out
    unfolding next_in unlisted
    over-packed = rw (filling.0, list-packed g y p w filling.1 s start)

    pub next-answered : (a : Answer Handing) (out' : List ℕ) → enumeration_of a chart' out' ≡ next_filled (cfg_in s p) w offered chart' out
        → enumeration_of a chart' out' ≡ next_of (dated g y) w offered chart out
    unfolding next_of on_output
    next-answered a out' d = d ∙ over-packed ∙ sym (output-passed g y w chart _ _ out judging)
