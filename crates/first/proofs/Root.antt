-- What is handed out at the root, by the list L of the packed grammar, if L is empty or the chart is complete. Assumes nothing.
use Prim.Native.Nat.{ℕ}
use mathlib.Core.Bool.{Bool, true, false}
use mathlib.Core.List.{List, []}
use mathlib.Core.Path.{◌≡◌, sym, ◌∙◌}
use lib.ListN.{length}
use Rattle.sets.specs.Set.{has}
use Rattle.cfg.specs.Listing.{L}
use Rattle.chart.specs.Cell.{cell}
use Rattle.chart.specs.Column.{complete}
use Rattle.theory_costs.specs.Span.{bytes_of}
use Rattle.packed.specs.Packed.{cfg_in}
use Rattle.results.specs.Answer.{Answer, Handing, answered, nothing}
use Rattle.results.specs.Enumerate.{Enumeration, head_of, handing_out}
use Rattle.table_layout.specs.Exact.{ChartTrue}
use Rattle.first_made.specs.Written.{enumeration_of, first_tree}
use Rattle.first_made.proofs.Root.{empty-incomplete}
use Rattle.first.specs.Answer.{first_filled}

module _ (p w : List ℕ) (s : ℕ) (chart out : List ℕ) where
  -- another answer if L is empty
  pub first-empty : (a : Answer Handing) → L (cfg_in s p) w ≡ []
      → enumeration_of a chart out ≡ handing_out (head_of (L (cfg_in s p) w)) a chart out
  unfolding handing_out head_of
  first-empty a e = rw e

  pub first-none : ChartTrue p (bytes_of w) chart (length w) → (b : Bool) → b ≡ has s (cell chart 0 (length w)) → b ≡ false
      → enumeration_of (answered nothing) chart out ≡ first_filled (cfg_in s p) w chart out
  unfolding complete cfg_in
  first-none cells b e h =
      let absent : has s (cell chart 0 (length w)) ≡ false = sym e ∙ h in
      rw absent (first-empty (answered nothing) (empty-incomplete p w s chart cells absent))

  -- if the chart is complete
  pub first-complete : (b : Bool) → b ≡ has s (cell chart 0 (length w)) → b ≡ true → (x : Enumeration)
      → x ≡ first_tree (cfg_in s p) w chart out → x ≡ first_filled (cfg_in s p) w chart out
  unfolding complete cfg_in
  first-complete b e h x f = rw (← e, h) f
