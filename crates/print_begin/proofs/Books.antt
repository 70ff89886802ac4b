-- The first line that is due, by the result of loading the book. Assumes nothing.
use Prim.Native.Nat.{ℕ}
use mathlib.Core.Bool.{true}
use mathlib.Core.List.{List}
use mathlib.Core.Logic.{inl, inr}
use mathlib.Core.Path.{◌≡◌, refl, sym, ap, subst, ◌∙◌}
use lib.IntN.{ℤ}
use Rattle.std.specs.Prelude.{Ok, Err}
use lib.ListN.{length}
use Rattle.sizes.specs.Sizes.{max_rules}
use Rattle.laws.proofs.Bools.{clash}
use Rattle.check_length.specs.Measure.{lengths_in}
use Rattle.demands.specs.LoadDemand.{LoadDemand}
use Rattle.demands.proofs.LoadDemand.{load-demand}
use Rattle.grammar.specs.Valid.{valid_grammar}
use Rattle.grammar.specs.View.{dated}
use Rattle.answers.specs.declared.Fault.{Fault}
use Rattle.answers.specs.Number.{number_of}
use Rattle.answers.specs.Answers.{outcome_of}
use Rattle.load.specs.declared.Loaded.{Loaded}
use Rattle.load.specs.Answer.{loading_of}
use Rattle.results.specs.Answer.{refused_at, loaded}
use Rattle.results.specs.Load.{Loading, load_of}
use Rattle.text.specs.Text.{input_text, loaded_text, year_in, text_of}
use Rattle.print_begin.specs.declared.Due.{Due}
use Rattle.print_begin.specs.declared.Due.TheVariants.{Refusal as RefusalDue}
use Rattle.print_begin.specs.Due.{Ahead, DueSized}
use Rattle.print_begin.specs.Begun.{InputBegun, BookBegun}

refused-apart : {n at : ℕ} → refused_at n at ≡ loaded → ⊥
refused-apart e = clash cc

module _ (book file w : List ℕ) (b : Loaded) (load : loading_of b ≡ load_of book) where
  -- the text, by the result of loading
  text-loaded : loaded_text (loading_of b) (year_in file) w ≡ text_of book file w
  unfolding text_of
  text-loaded = ap (λ (x : Loading). loaded_text x (year_in file) w) load

  pub book-refused : (f : Fault) → b.outcome ≡ Err f → (d : Due) → d ≡ RefusalDue (number_of f.refusal) → DueSized d
      → (p : List ℕ) (lengths : List ℤ) → length lengths ≡ max_rules → (chart fits tables buf : List ℕ)
      → BookBegun book file w p lengths chart chart fits tables buf buf d
  unfolding loaded_text
  book-refused f is d e sized p lengths rows chart fits tables buf = record {
    rows = rows;
    chart_long = refl;
    long = refl;
    sized = sized;
    ahead = rw e (sym text-loaded ∙ rw is);
  }

  module _ (is : b.outcome ≡ Ok tt) where
    pub book-valid : valid_grammar b.grammar ≡ true
    book-valid = go (subst (LoadDemand book) (sym load) (load-demand book))
      where
        go : LoadDemand book (loading_of b) → valid_grammar b.grammar ≡ true
        go (inl R) = absurd (refused-apart (sym R.answer ∙ ap outcome_of is))
        go (inr A) = A.valid

    pub book-begun : (y : ℕ) → y ≡ year_in file → (p : List ℕ) (lengths : List ℤ) (chart chart' fits tables buf₀ buf : List ℕ) (d : Due)
        → InputBegun (dated b.grammar y) w p lengths chart chart' fits tables buf₀ buf d
        → BookBegun book file w p lengths chart chart' fits tables buf₀ buf d
    unfolding loaded_text
    book-begun y told p lengths chart chart' fits tables buf₀ buf d I =
        let e : loaded_text (loading_of b) (year_in file) w ≡ input_text (dated b.grammar y) w = rw (is, told) in
        record {
          rows = I.rows;
          chart_long = I.chart_long;
          long = I.long;
          sized = I.sized;
          ahead = subst (Ahead (lengths_in lengths) p fits chart' tables buf d) (sym e ∙ text-loaded) I.ahead;
        }
