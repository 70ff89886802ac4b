-- When the cells of one column are closed under the rules, with earlier columns as found. Taking a byte writes the least such cells.
-- Assumes nothing.
use Rattle.std.specs.Prelude.{ℕ, ◌≤◌, true, false, List, ◌≡◌, ltb}
use Rattle.sets.specs.Set.{has}
use Rattle.cfg.specs.Grammar.{Cfg, Of}
use Rattle.chart.specs.Cell.{Fit, cell, cuts}

-- the set of each cell: in earlier columns as found, in column n as f says
unfoldable pub joint : List ℕ → ℕ → (ℕ → ℕ) → ℕ → ℕ → ℕ
joint chart n f a b = elim (ltb b n) [ true ↦ cell chart a b | false ↦ f a ]

-- a nonterminal is in cell (i, n) whenever one of its rules cuts the span into pieces, each a fitting byte or a nonterminal in its cell
abbrev pub Closed : Cfg → Fit → List ℕ → ℕ → (ℕ → ℕ) → Type 0
Closed G fit chart n f =
    (i r k : ℕ) → i ≤ n → (o : Of G r k) → cuts fit (joint chart n f) o.the.places i n ≡ true → has k (f i) ≡ true
