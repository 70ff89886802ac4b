-- What `count` answers, in the words and numbers of document 01. Assumes nothing.
use Rattle.std.specs.Prelude.{ℕ, true, false, cond, List, eqb, length}
use Rattle.cfg.specs.Grammar.{Cfg}
use Rattle.cfg.specs.Listing.{L}
use Rattle.chart.specs.Column.{complete}
use Rattle.results.specs.Answer.{Answer, refused, answered, Figure, counted}
use Rattle.results.specs.Enumerate.{figure}

-- the answer for the number of elements, or another answer if there is none
unfoldable pub count_or : Answer Figure → List (List ℕ) → Answer Figure
count_or other l = elim (eqb (length l) 0) [ true ↦ other | false ↦ answered (figure (length l)) ]

-- `count` over trees: refusal 13 if there are no elements
abbrev pub count_tree : List (List ℕ) → Answer Figure
count_tree l = count_or (refused 13) l

-- `count` over a filled chart: if there are no elements, refusal 13 if the chart is complete, else 0
abbrev pub count_filled : Cfg → List ℕ → List ℕ → Answer Figure
count_filled G w chart = count_or (cond (complete G (length w) chart) (refused 13) (answered (counted 0))) (L G w)
