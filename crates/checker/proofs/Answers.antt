-- What the three exported calls answer: over the list of the packed grammar's derivations, and over the grammar that the struct means.
-- Assumes nothing.
use Prim.Native.Nat.{ℕ, ◌≤◌}
use Rattle.std.proofs.Common.{Ok, Err}
use mathlib.Core.Bool.{Bool, true, false, not}
use mathlib.Core.List.{List, [], ◌∷◌, map}
use mathlib.Core.Path.{◌≡◌, sym, ap, ◌∙◌}
use lib.IntN.{ℤ}
use lib.ListN.{length}
use borrow.Author.Tests.{not-true, not-false}
use mir.Syntax.{w32}
use mir.Val.{SFits, to_z, of_z}
use mir.Facts.{to_z-of_z}
use Rattle.sizes.specs.Sizes.{output_size}
use Rattle.cfg.specs.Grammar.{rule}
use Rattle.cfg.specs.Derivation.{limit}
use Rattle.cfg.specs.Listing.{L}
use Rattle.theory_listing.proofs.Exact.{derivation-length}
use Rattle.chart.specs.Column.{filled}
use Rattle.grammar.specs.declared.Grammar.{Grammar}
use Rattle.grammar.specs.View.{dated, grammar_of}
use Rattle.answers.specs.declared.Refusal.{Refusal}
use Rattle.answers.specs.Number.{number_of}
use Rattle.packed.specs.Packed.{cfg_in}
use Rattle.fill_input.specs.Given.{checking_of}
use Rattle.fill_input.specs.Judging.{Judging}
use Rattle.fill_input.proofs.Deciding.{call-refused, call-passed}
use Rattle.fill_input.proofs.Packing.{list-packed}
use Rattle.results.specs.Answer.{Answer, refused, answered, check, decide}
use Rattle.results.specs.Check.{listed, check_in, check_of}
use Rattle.results.specs.Measure.{tenths_of, unlisted, length_in, length_of, same_built, same_build_in, same_build_of}
use Rattle.check_length.specs.Measure.{length_of_rule, lengths_in}
use Rattle.checker.specs.Calls.{check_answer, length_answer, build_answer}
use Rattle.check_walk.proofs.Whole.{listed-derivation}
use Rattle.check_length.proofs.Lengths.{tenths-row}

-- ---- a row of which `is_derivation` says that it is one

module _ (p w e : List ℕ) (s : ℕ) (b : Bool) (told : b ≡ listed e (L (cfg_in s p) w)) where
  pub offered-short : b ≡ true → length e ≤ output_size
  offered-short h = derivation-length (cfg_in s p) limit w e (listed-derivation (cfg_in s p) w e (sym told ∙ h))

-- ---- the answers over a list of derivations

module _ (l : List (List ℕ)) (e : List ℕ) (b : Bool) (told : b ≡ listed e l) where
  pub length-yes : (lengths : ℕ → ℤ) (z : ℤ) → b ≡ true → SFits w32 z → z ≡ tenths_of lengths e
      → answered (to_z w32 (of_z w32 z)) ≡ length_answer lengths l e
  unfolding decide
  length-yes lengths z h f d = rw (← told, h) (ap answered (to_z-of_z f ∙ d))

  pub length-no : (lengths : ℕ → ℤ) → b ≡ false → refused 12 ≡ length_answer lengths l e
  unfolding decide
  length-no lengths h = rw (← told, h)

module _ (l : List (List ℕ)) (d e : List ℕ) (a : Bool) (first : a ≡ listed d l) where
  pub build-first : not a ≡ true → refused 12 ≡ build_answer l d e
  unfolding decide
  build-first h = rw (← first, not-true a h)

  module _ (h : not a ≡ false) (b : Bool) (second : b ≡ listed e l) where
    pub build-second : not b ≡ true → refused 12 ≡ build_answer l d e
    unfolding decide
    build-second k = rw (← first, ← second, not-false a h, not-true b k)

    module _ (k : not b ≡ false) (c : Bool) (compared : c ≡ same_built d e) where
      pub build-says : answered c ≡ build_answer l d e
      unfolding decide
      build-says = rw (← first, ← second, ← compared, not-false a h, not-false b k)

-- ---- the calls

module _ (g : Grammar) (y : ℕ) (w chart : List ℕ) where
  module _ {r : Refusal} (judging : Judging g (length w) (length chart) (Err r)) where
    pub check-refused : (e : List ℕ) → checking_of (refused (number_of r)) chart ≡ check_of (dated g y) w e chart
    unfolding check_of
    check-refused e = call-refused g y w chart _ judging

    pub length-refused : (e : List ℕ) → checking_of (refused (number_of r)) chart ≡ length_of (dated g y) w e chart
    unfolding length_of
    length-refused e = call-refused g y w chart _ judging

    pub build-refused : (a b : List ℕ) → checking_of (refused (number_of r)) chart ≡ same_build_of (dated g y) w a b chart
    unfolding same_build_of
    build-refused a b = call-refused g y w chart _ judging

  module _ {u : Unit {0}} (judging : Judging g (length w) (length chart) (Ok u)) (p chart' : List ℕ) (s : ℕ) (start : s ≡ g.start)
      (filling : (chart' ≡ filled (grammar_of (dated g y)) w chart)
      × ((r : ℕ) → rule (cfg_in g.start p) r ≡ rule (grammar_of (dated g y)) r)) where
    same : L (cfg_in s p) w ≡ L (grammar_of (dated g y)) w
    same = list-packed g y p w filling.1 s start

    pub check-answered : (a : Answer Bool) (e : List ℕ) → a ≡ check_answer (L (cfg_in s p) w) e
        → checking_of a chart' ≡ check_of (dated g y) w e chart
    unfolding check_of check_in
    check-answered a e d =
        call-passed g y w chart _ chart' a judging filling.0 (d ∙ ap (λ (l : List (List ℕ)). check_answer l e) same)

    pub length-answered : (l : List ℤ) (a : Answer ℤ) (e : List ℕ) → l ≡ map length_of_rule g.rules
        → a ≡ length_answer (lengths_in l) (L (cfg_in s p) w) e → checking_of a chart' ≡ length_of (dated g y) w e chart
    unfolding length_of length_in unlisted
    length-answered l a e m d =
        call-passed g y w chart _ chart' a judging filling.0
        (d ∙ ap (λ (x : List (List ℕ)). length_answer (lengths_in l) x e) same
        ∙ ap (λ (z : ℤ). decide (check (not (listed e (L (grammar_of (dated g y)) w))) 12 ∷ []) refused (λ _. answered z))
        (tenths-row g l m e))

    pub build-answered : (a : Answer Bool) (b c : List ℕ) → a ≡ build_answer (L (cfg_in s p) w) b c
        → checking_of a chart' ≡ same_build_of (dated g y) w b c chart
    unfolding same_build_of same_build_in unlisted
    build-answered a b c d =
        call-passed g y w chart _ chart' a judging filling.0 (d ∙ ap (λ (l : List (List ℕ)). build_answer l b c) same)
