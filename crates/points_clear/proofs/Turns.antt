-- The turns of the two loops: one more cell of a column is cleared, and one more column. Assumes nothing.
use Prim.Native.Nat.{ℕ, suc, ◌+◌, ◌-◌, ◌≤◌, ◌<◌}
use mathlib.Core.List.{List, [], ◌∷◌, ◌++◌}
use mathlib.Core.Path.{◌≡◌, refl, sym, ap, ◌∙◌}
use native.Mathlib.Omega.{arith}
use lib.ListN.{length, set, replicate, length-replicate, replicate-append-replicate}
use Rattle.sizes.specs.Sizes.{max_input, side}
use Rattle.chart.specs.Cell.{index}
use Rattle.chart.specs.Column.{put_column}
use Rattle.theory_clearing.specs.Clearing.{cleared_column, cleared_columns, cleared}

-- ---- the cells of a column

-- the last cell is put after the others
put-snoc : (vs chart : List ℕ) (n i k v : ℕ) → i + length vs ≡ k
    → put_column chart n i (vs ++ (v ∷ [])) ≡ set (put_column chart n i vs) (index k n) v
unfolding put_column
put-snoc [] chart n i k v e = let s : i ≡ k = omega arith in ap (λ (p : ℕ). set chart (index p n) v) s
put-snoc (x ∷ vs) chart n i k v e = put-snoc vs (set chart (index i n) x) n (suc i) k v (omega arith)

-- the cells of column n from 0 up to, but not including, i are cleared
abbrev pub CellsTo : ℕ → List ℕ → ℕ → List ℕ → Type 0
CellsTo n found i chart = chart ≡ put_column found n 0 (replicate i 0)

module _ (n : ℕ) (found : List ℕ) where
  pub cells-none : CellsTo n found 0 found
  unfolding put_column
  cells-none = refl

  pub cells-next : (i : ℕ) (chart : List ℕ) → CellsTo n found i chart → CellsTo n found (i + 1) (set chart (index i n) 0)
  cells-next i chart e =
      ap (λ (c : List ℕ). set c (index i n) 0) e
      ∙ sym (put-snoc (replicate i 0) found n 0 i 0 (omega (arith, length-replicate {A = ℕ} i 0)))
      ∙ ap (put_column found n 0) (replicate-append-replicate {A = ℕ} i 1 0)

  pub cells-done : (i : ℕ) (chart : List ℕ) → i ≤ n + 1 → n < i → CellsTo n found i chart → chart ≡ cleared_column n found
  unfolding cleared_column
  cells-done i chart h l e =
      let s : i ≡ suc n = omega arith in
      e ∙ ap (λ (m : ℕ). put_column found n 0 (replicate m 0)) s

-- ---- the columns

-- the columns after p are cleared up to, but not including, n
abbrev pub ColumnsTo : ℕ → List ℕ → ℕ → List ℕ → Type 0
ColumnsTo p found n chart = chart ≡ cleared_columns p (n - suc p) found

module _ (p : ℕ) (found : List ℕ) where
  pub columns-none : ColumnsTo p found (p + 1) found
  unfolding cleared_columns
  columns-none = let s : 0 ≡ p + 1 - suc p = omega arith in ap (λ (m : ℕ). cleared_columns p m found) s

  pub columns-next : (n : ℕ) (chart chart' : List ℕ) → p < n → ColumnsTo p found n chart → chart' ≡ cleared_column n chart
      → ColumnsTo p found (n + 1) chart'
  unfolding cleared_columns
  columns-next n chart chart' h e f =
      let a : n ≡ p + suc (n - suc p) = omega arith in
      let b : suc (n - suc p) ≡ n + 1 - suc p = omega arith in
      f
      ∙ ap (cleared_column n) e
      ∙ ap (λ (m : ℕ). cleared_column m (cleared_columns p (n - suc p) found)) a
      ∙ ap (λ (m : ℕ). cleared_columns p m found) b

  pub columns-done : (n : ℕ) (chart : List ℕ) → n ≤ side → max_input < n → ColumnsTo p found n chart → chart ≡ cleared p found
  unfolding cleared
  columns-done n chart h l e =
      let s : n - suc p ≡ max_input - p = omega arith in
      e ∙ ap (λ (m : ℕ). cleared_columns p m found) s
