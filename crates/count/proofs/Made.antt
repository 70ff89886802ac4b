-- What is counted once the tables are made, and over the filled chart, by the tests that the code makes. Assumes nothing.
use Prim.Native.Nat.{ℕ, ◌<◌}
use mathlib.Core.Bool.{Bool, true, false}
use mathlib.Core.List.{List, []}
use mathlib.Core.Path.{◌≡◌, sym, ◌∙◌}
use native.Mathlib.Omega.{arith}
use lib.Dec.{leb}
use lib.ListN.{length}
use borrow.Author.Tests.{leb-true, ne_eqb}
use Rattle.sizes.specs.Sizes.{max_nodes}
use Rattle.sets.specs.Set.{has}
use Rattle.cfg.specs.Listing.{L}
use Rattle.chart.specs.Cell.{cell}
use Rattle.chart.specs.Column.{complete}
use Rattle.theory_costs.specs.Span.{bytes_of}
use Rattle.packed.specs.Packed.{cfg_in}
use Rattle.results.specs.Answer.{Answer, Figure, refused, answered, counted}
use Rattle.results.specs.Enumerate.{figure}
use Rattle.table_layout.specs.Layout.{cost_in}
use Rattle.table_layout.specs.Exact.{ChartTrue}
use Rattle.first_made.specs.Written.{FirstWritten}
use Rattle.first_made.proofs.Root.{empty-incomplete}
use Rattle.first_made.proofs.Writing.{empty-larger}
use Rattle.count_made.specs.Answer.{count_or, count_tree, count_filled}
use Rattle.count_made.specs.Made.{CountedOn, CountedMade}
use Rattle.count_made.proofs.Handed.{handed-first}

-- ---- once the tables are made

counted-some : (l : List (List ℕ)) → 0 < length l → (a : Answer Figure) → a ≡ answered (figure (length l)) → a ≡ count_tree l
unfolding count_or
counted-some l h a e = rw (ne_eqb (length l) 0 (omega arith), count_or) e

counted_none : (l : List (List ℕ)) → l ≡ [] → (x : Answer Figure) → x ≡ count_or x l
unfolding count_or
counted_none l e x = rw e

module _ (p : List ℕ) (rules : ℕ) (fits chart tables : List ℕ) (s n : ℕ) (b : Bool) (told : b ≡ leb (cost_in tables s 0 n) max_nodes) where
  pub made_counted : (fresh buf : List ℕ) (m : ℕ) → b ≡ true → FirstWritten p rules fits chart tables s n fresh buf m
      → (a : Answer Figure) → CountedOn p rules fits chart tables s n buf a → CountedMade p rules fits chart tables s n a
  made_counted fresh buf m h W a C = record {
    exact = λ w to given.
        let S = (handed-first (L (cfg_in s p) w) chart fresh buf m
        (W.exact (leb-true (cost_in tables s 0 n) max_nodes (sym told ∙ h)) w to given)).stands in
        counted-some (L (cfg_in s p) w) S.there a (C.exact w to given S);
  }

  pub made-many : b ≡ false → CountedMade p rules fits chart tables s n (refused 13)
  made-many h = record {
    exact = λ w to given.
        counted_none (L (cfg_in s p) w) (empty-larger p rules fits chart tables s n w to given (sym told ∙ h)) (refused 13);
  }

-- ---- over the filled chart

module _ (p w : List ℕ) (s : ℕ) (chart : List ℕ) (b : Bool) (told : b ≡ has s (cell chart 0 (length w))) where
  pub count_none : ChartTrue p (bytes_of w) chart (length w) → b ≡ false → answered (counted 0) ≡ count_filled (cfg_in s p) w chart
  unfolding complete cfg_in
  count_none cells h =
      let absent : has s (cell chart 0 (length w)) ≡ false = sym told ∙ h in
      rw absent (counted_none (L (cfg_in s p) w) (empty-incomplete p w s chart cells absent) (answered (counted 0)))

  pub count-complete : b ≡ true → (x : Answer Figure) → x ≡ count_tree (L (cfg_in s p) w) → x ≡ count_filled (cfg_in s p) w chart
  unfolding complete cfg_in
  count-complete h x f = rw (← told, h) f
