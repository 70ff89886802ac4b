-- What `first` answers over a filled chart. Assumes nothing.
use Rattle.std.specs.Prelude.{ℕ, cond, List, length}
use Rattle.cfg.specs.Grammar.{Cfg}
use Rattle.cfg.specs.Listing.{L}
use Rattle.chart.specs.Column.{complete}
use Rattle.results.specs.Answer.{refused, answered, nothing}
use Rattle.results.specs.Enumerate.{Enumeration, head_of, handing_out}

-- `first` over a filled chart: the first of L; if L is empty, refusal 13 if the chart is complete, else "no reading"
abbrev pub first_filled : Cfg → List ℕ → List ℕ → List ℕ → Enumeration
first_filled G w chart out = handing_out (head_of (L G w)) (cond (complete G (length w) chart) (refused 13) (answered nothing)) chart out
