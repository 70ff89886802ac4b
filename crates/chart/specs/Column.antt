-- The columns of the chart: opening, taking a byte, and filling, over any chart found. Assumes nothing.
use Rattle.std.specs.Prelude.{ℕ, zero, suc, ◌-◌, Bool, true, false, List, [], ◌∷◌, ◌++◌, ltb, length, get_or, drop, set, replicate}
use Rattle.sets.specs.Set.{has}
use Rattle.cfg.specs.Grammar.{Cfg}
use Rattle.sizes.specs.Sizes.{cells}
use Rattle.chart.specs.Cell.{Fit, cell, index, derived, fits_at}

-- the sets seen from cell (i, n): its own; those of the later starts of column n; and those of earlier columns as found
unfoldable pub seen : List ℕ → ℕ → ℕ → List ℕ → ℕ → ℕ → ℕ → ℕ
seen chart n i later own a b = elim (ltb b n) [ true ↦ cell chart a b | false ↦ get_or (own ∷ later) (a - i) 0 ]

-- n steps, from v on
unfoldable pub times : ℕ → (ℕ → ℕ) → ℕ → ℕ
times zero step v = v
times (suc n) step v = step (times n step v)

-- cell (i, n): the least set closed under the rules. After a round that adds nothing, no round adds any; and there are 32 nonterminals
unfoldable pub least : Cfg → Fit → List ℕ → ℕ → ℕ → List ℕ → ℕ
least G fit chart n i later = times 32 (λ own. derived fit (seen chart n i later own) G.rules i n) 0

-- the last m cells of column n, (n - m + 1, n) to (n, n); a cell is made after those of later starts
unfoldable pub column : Cfg → Fit → List ℕ → ℕ → ℕ → List ℕ
column G fit chart n zero = []
column G fit chart n (suc m) = let later = column G fit chart n m in least G fit chart n (n - m) later ∷ later

-- the chart with these cells at (i, n), (i + 1, n), and so on
unfoldable pub put_column : List ℕ → ℕ → ℕ → List ℕ → List ℕ
put_column chart n i [] = chart
put_column chart n i (v ∷ vs) = put_column (set chart (index i n) v) n (suc i) vs

-- the chart after its column n is written, for an input of which the first n bytes are known
unfoldable pub written : Cfg → Fit → ℕ → List ℕ → List ℕ
written G fit n chart = put_column chart n 0 (column G fit chart n (suc n))

-- opening: all cells are zero except (0, 0), which has what derives the empty span; the numbers after the cells stay
unfoldable pub opened : Cfg → List ℕ → List ℕ
opened G chart = written G (fits_at []) 0 (replicate cells 0 ++ drop cells chart)

-- taking the last byte of w, after the others have been taken
unfoldable pub extended : Cfg → List ℕ → List ℕ → List ℕ
extended G w chart = written G (fits_at w) (length w) chart

-- taking the bytes of w one after the other, after those of v have been taken
unfoldable pub extended_by : Cfg → List ℕ → List ℕ → List ℕ → List ℕ
extended_by G v [] chart = chart
extended_by G v (m ∷ w) chart = extended_by G (v ++ (m ∷ [])) w (extended G (v ++ (m ∷ [])) chart)

-- the chart of opening and then taking the whole input
unfoldable pub filled : Cfg → List ℕ → List ℕ → List ℕ
filled G w chart = extended_by G [] w (opened G chart)

-- complete, after n bytes have been taken: the start symbol is in cell (0, n)
unfoldable pub complete : Cfg → ℕ → List ℕ → Bool
complete G n chart = has G.start (cell chart 0 n)
