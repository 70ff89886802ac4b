-- What `count` answers, from the checks and from the answer over the filled chart. Assumes nothing.
use Prim.Native.Nat.{ℕ, ◌≤◌}
use Rattle.std.proofs.Common.{Ok, Err}
use mathlib.Core.List.{List}
use mathlib.Core.Path.{◌≡◌, ap₂, ◌∙◌}
use lib.ListN.{length}
use Rattle.sizes.specs.Sizes.{max_input, cells}
use Rattle.chart.specs.Column.{complete}
use Rattle.theory_costs.specs.Span.{bytes_of}
use Rattle.packed_fit.specs.Fit.{Told}
use Rattle.grammar.specs.declared.Grammar.{Grammar}
use Rattle.grammar.specs.View.{dated, grammar_of}
use Rattle.answers.specs.declared.Refusal.{Refusal}
use Rattle.answers.specs.Number.{number_of}
use Rattle.packed.specs.Packed.{cfg_in}
use Rattle.fill_input.specs.Given.{checking_of}
use Rattle.fill_input.specs.Judging.{Judging}
use Rattle.fill_input.proofs.Deciding.{call-refused, call-passed}
use Rattle.fill_input.proofs.Judging.{judged-ready}
use Rattle.fill_input.proofs.Packing.{list-packed}
use Rattle.results.specs.Answer.{Answer, Figure, refused}
use Rattle.results.specs.Enumerate.{tree_in, count_in, count_of}
use Rattle.table_layout.specs.Exact.{ChartTrue}
use Rattle.first.proofs.Chart.{Filling, filled-chart}
use Rattle.count_made.specs.Answer.{count_or, count_filled}

module _ (g : Grammar) (y : ℕ) (w chart : List ℕ) where
  pub count-refused : {r : Refusal} → Judging g (length w) (length chart) (Err r)
      → checking_of (refused (number_of r)) chart ≡ count_of (dated g y) w chart
  unfolding count_of
  count-refused judging = call-refused g y w chart _ judging

  module _ {u : Unit {0}} (judging : Judging g (length w) (length chart) (Ok u)) (p chart' : List ℕ) (filling : Filling g y p w chart chart')
    where
      -- what the function over the filled chart needs
      pub filled-ready : {fits : List ℕ} → Told p w fits
          → (length w ≤ max_input) × (cells ≤ length chart') × Told p w fits × ChartTrue p (bytes_of w) chart' (length w)
      filled-ready told =
          let (a, b, t) = filled-chart g y p w chart chart' (judged-ready judging) filling in
          (a, b, told, t)

      module _ (s : ℕ) (start : s ≡ g.start) where
        -- over the grammar that was packed
        over-packed : count_filled (cfg_in s p) w chart' ≡ (count_in (grammar_of (dated g y)) w chart).answer
        unfolding count_or count_in tree_in complete cfg_in
        over-packed = ap₂ count_or (rw (filling.0, start)) (list-packed g y p w filling.1 s start)

        pub count-answered : (a : Answer Figure) → a ≡ count_filled (cfg_in s p) w chart' → checking_of a chart' ≡ count_of (dated g y) w chart
        unfolding count_of count_in
        count-answered a d = call-passed g y w chart _ chart' a judging filling.0 (d ∙ over-packed)
