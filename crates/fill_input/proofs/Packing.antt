-- The packed grammar has the rules of the grammar, so its charts and its list L are the same. Assumes nothing.
use Prim.Native.Nat.{ℕ, ◌≤◌}
use mathlib.Core.List.{List}
use mathlib.Core.Path.{◌≡◌, refl, ap, ◌∙◌}
use lib.ListN.{length}
use Rattle.sizes.specs.Sizes.{max_input}
use Rattle.cfg.specs.Grammar.{rule}
use Rattle.cfg.specs.Derivation.{limit}
use Rattle.cfg.specs.Listing.{L}
use Rattle.chart.specs.Cell.{fits_at}
use Rattle.chart.specs.Column.{filled}
use Rattle.chart.proofs.SameRules.{SameRules, filled-same-rules}
use Rattle.grammar.specs.declared.Grammar.{Grammar}
use Rattle.grammar.specs.View.{dated, grammar_of}
use Rattle.packed.specs.Packed.{cfg_in}
use Rattle.packed.proofs.Laws.{cfg-in-bounded}
use Rattle.packed_fit.specs.Fit.{Told, FitTold}
use Rattle.packed_fit.proofs.Reading.{fit-told}
use Rattle.theory_embedding.proofs.Listed.{derivations-same-rules}

module _ (g : Grammar) (y : ℕ) (p w : List ℕ) (same : (r : ℕ) → rule (cfg_in g.start p) r ≡ rule (grammar_of (dated g y)) r) where
  same-zero : SameRules (cfg_in 0 p) (grammar_of (dated g y))
  unfolding cfg_in
  same-zero r = same r

  pub filled-packed : (chart chart' : List ℕ) → chart' ≡ filled (cfg_in 0 p) w chart → chart' ≡ filled (grammar_of (dated g y)) w chart
  filled-packed chart chart' e = e ∙ filled-same-rules (cfg_in 0 p) (grammar_of (dated g y)) same-zero (cfg-in-bounded 0 p) w chart

  -- the same from what the fit table says
  pub filled-told : (t chart chart' : List ℕ) → length w ≤ max_input → Told p w t
      → ((x : List ℕ) → length x ≡ length w → FitTold (fits_at x) p t (length w) → chart' ≡ filled (cfg_in 0 p) x chart)
      → chart' ≡ filled (grammar_of (dated g y)) w chart
  filled-told t chart chart' small told fill = filled-packed chart chart' (fill w refl (fit-told p w t (length w) small told))

  pub list-packed : (s : ℕ) → s ≡ g.start → L (cfg_in s p) w ≡ L (grammar_of (dated g y)) w
  unfolding cfg_in
  list-packed s h =
      ap (λ (x : ℕ). L (cfg_in x p) w) h ∙ derivations-same-rules (cfg_in g.start p) (grammar_of (dated g y)) same refl limit w
