-- What `first` answers, from the checks and from the answer over the filled chart. Assumes nothing.
use Prim.Native.Nat.{ℕ, ◌≤◌}
use Rattle.std.proofs.Common.{Ok, Err}
use mathlib.Core.List.{List}
use mathlib.Core.Path.{◌≡◌, sym, ◌∙◌}
use lib.ListN.{length}
use Rattle.sizes.specs.Sizes.{cells, output_size, max_input}
use Rattle.chart.specs.Column.{complete}
use Rattle.theory_costs.specs.Span.{bytes_of}
use Rattle.packed_fit.specs.Fit.{Told}
use Rattle.grammar.specs.declared.Grammar.{Grammar}
use Rattle.grammar.specs.View.{dated, grammar_of}
use Rattle.answers.specs.declared.Refusal.{Refusal}
use Rattle.answers.specs.Number.{number_of}
use Rattle.packed.specs.Packed.{cfg_in}
use Rattle.fill_input.specs.Judging.{JudgingOutput}
use Rattle.fill_input.proofs.Deciding.{output-refused, output-passed}
use Rattle.fill_input.proofs.Judging.{output-ready}
use Rattle.fill_input.proofs.Packing.{list-packed}
use Rattle.results.specs.Answer.{Answer, Handing, refused}
use Rattle.results.specs.Enumerate.{tree_in, on_output, first_in, first_of}
use Rattle.table_layout.specs.Exact.{ChartTrue}
use Rattle.first_made.specs.Written.{enumeration_of}
use Rattle.first.specs.Answer.{first_filled}
use Rattle.first.proofs.Chart.{Filling, filled-chart}

-- what the function over the filled chart needs
pub filled-ready : (g : Grammar) (y : ℕ) (p w fits chart chart' : List ℕ) (k : ℕ) {u : Unit {0}}
    → JudgingOutput g (length w) (length chart) k (Ok u) → Filling g y p w chart chart' × Told p w fits
    → (length w ≤ max_input) × (cells ≤ length chart') × (output_size ≤ k) × Told p w fits × ChartTrue p (bytes_of w) chart' (length w)
filled-ready g y p w fits chart chart' k judging (filling, told) =
    let (ready, c) = output-ready judging in
    let (a, b, t) = filled-chart g y p w chart chart' ready filling in
    (a, b, c, told, t)

module _ (g : Grammar) (y : ℕ) (w chart out : List ℕ) where
  pub first-refused : {r : Refusal} → JudgingOutput g (length w) (length chart) (length out) (Err r)
      → enumeration_of (refused (number_of r)) chart out ≡ first_of (dated g y) w chart out
  unfolding first_of on_output
  first-refused judging = sym (output-refused g y w chart _ _ out judging)

  module _ {u : Unit {0}} (judging : JudgingOutput g (length w) (length chart) (length out) (Ok u)) (p chart' : List ℕ)
      (filling : Filling g y p w chart chart') (s : ℕ) (start : s ≡ g.start) where
    -- over the grammar that was packed
    over-packed : first_filled (cfg_in s p) w chart' out ≡ first_in (grammar_of (dated g y)) w chart out
    unfolding first_in tree_in complete cfg_in
    over-packed = rw (filling.0, list-packed g y p w filling.1 s start, start)

    pub first-answered : (a : Answer Handing) (out' : List ℕ) → enumeration_of a chart' out' ≡ first_filled (cfg_in s p) w chart' out
        → enumeration_of a chart' out' ≡ first_of (dated g y) w chart out
    unfolding first_of on_output
    first-answered a out' d = d ∙ over-packed ∙ sym (output-passed g y w chart _ _ out judging)
