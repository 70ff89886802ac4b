-- The facts about a chart that the tables need, from the function that fills it. Assumes nothing.
use Prim.Native.Nat.{ℕ, ◌≤◌}
use mathlib.Core.Bool.{true≢false}
use mathlib.Core.List.{List}
use mathlib.Core.Path.{◌≡◌, refl, sym, ◌∙◌, subst}
use lib.ListN.{length}
use Rattle.sizes.specs.Sizes.{max_input, cells}
use Rattle.cfg.specs.Grammar.{rule}
use Rattle.chart.specs.Column.{filled}
use Rattle.chart.proofs.Truth.{filled-true, filled-length}
use Rattle.theory_costs.specs.Span.{bytes_of}
use Rattle.theory_costs.proofs.Span.{tree-parse}
use Rattle.grammar.specs.declared.Grammar.{Grammar}
use Rattle.grammar.specs.View.{dated, grammar_of}
use Rattle.packed.specs.Packed.{cfg_in}
use Rattle.packed.proofs.Laws.{cfg-in-bounded}
use Rattle.fill_input.specs.Judging.{Fillable}
use Rattle.fill_input.proofs.Packing.{filled-packed}
use Rattle.table_layout.specs.Exact.{Packing, ChartTrue}

-- a chart filled for the packed grammar leaves out no nonterminal that has a tree
chart-true : (p w chart : List ℕ) → length w ≤ max_input → cells ≤ length chart
    → ChartTrue p (bytes_of w) (filled (Packing p) w chart) (length w)
chart-true p w chart h c i j a b k e t T =
    let said = (filled-true (Packing p) (cfg-in-bounded 0 p) w chart h c i j k a b).1 (t, (tree-parse w (Packing p) a b).0 T) in
    true≢false (sym said ∙ e)

-- the chart was filled, and the packed bytes have the rules of the grammar
abbrev pub Filling : Grammar → ℕ → List ℕ → List ℕ → List ℕ → List ℕ → Type 0
Filling g y p w chart chart' =
    (chart' ≡ filled (grammar_of (dated g y)) w chart) × ((r : ℕ) → rule (cfg_in g.start p) r ≡ rule (grammar_of (dated g y)) r)

-- so the chart is long enough, and true for the packed grammar
pub filled-chart : (g : Grammar) (y : ℕ) (p w chart chart' : List ℕ) → Fillable g (length w) (length chart) → Filling g y p w chart chart'
    → (length w ≤ max_input) × (cells ≤ length chart') × ChartTrue p (bytes_of w) chart' (length w)
filled-chart g y p w chart chart' (v, short, room) (e, same) = (
  short,
  rw (e, filled-length (grammar_of (dated g y)) w chart room) room,
  subst (λ (x : List ℕ). ChartTrue p (bytes_of w) x (length w)) (filled-packed g y p w same chart _ refl ∙ sym e)
      (chart-true p w chart short room),
)
