-- Clearing columns: the cells of the columns hold zero, and nothing else is written. Assumes nothing.
use Prim.Native.Nat.{ℕ, zero, suc, ◌+◌, ◌-◌, ◌≤◌, ◌<◌}
use mathlib.Core.List.{List}
use mathlib.Core.Logic.{◌≢◌, dite}
use mathlib.Core.Path.{◌≡◌, refl, ap, ◌∙◌}
use native.Mathlib.Decide.{ℕ_discrete}
use native.Mathlib.Omega.{arith}
use lib.ListN.{length, drop, length-replicate, get_or-replicate}
use Rattle.sizes.specs.Sizes.{cells, max_input}
use Rattle.chart.specs.Cell.{cell, index}
use Rattle.chart.proofs.Written.{index-inj, put-length, put-behind, put_other, put_same}
use Rattle.theory_clearing.specs.Clearing.{cleared_column, cleared_columns, cleared}

-- ---- one column

module _ (n : ℕ) (chart : List ℕ) where
  pub column-cleared-length : length (cleared_column n chart) ≡ length chart
  unfolding cleared_column
  column-cleared-length = put-length _ chart n 0

  column-cleared-behind : n ≤ max_input → drop cells (cleared_column n chart) ≡ drop cells chart
  unfolding cleared_column
  column-cleared-behind h = put-behind _ chart n 0 h (simp length-replicate (omega arith))

  column-cleared-zero : n ≤ max_input → cells ≤ length chart → (i : ℕ) → i ≤ n → cell (cleared_column n chart) i n ≡ 0
  unfolding cleared_column
  column-cleared-zero h c i l =
      put_same _ chart n 0 i h c (simp length-replicate (omega arith)) (omega arith) (simp length-replicate (omega arith))
      ∙ get_or-replicate (suc n) (i - 0) 0 0 (omega arith)

  column-cleared-other : n ≤ max_input → (i j : ℕ) → j ≤ max_input → (j ≡ n → n < i) → cell (cleared_column n chart) i j ≡ cell chart i j
  unfolding cleared_column
  column-cleared-other h i j l d = put_other _ chart n 0 (index i j) (λ a m o e.
      let q = index-inj i j a n l h e in
      let b : n < i = d q.1 in
      let s = simp length-replicate at o in
      omega arith)

-- ---- columns, one after the other

module _ (p : ℕ) (chart : List ℕ) where
  pub columns-cleared-length : (m : ℕ) → length (cleared_columns p m chart) ≡ length chart
  unfolding cleared_columns
  columns-cleared-length zero = refl
  columns-cleared-length (suc m) = column-cleared-length _ (cleared_columns p m chart) ∙ columns-cleared-length m

  columns-cleared-behind : (m : ℕ) → p + m ≤ max_input → drop cells (cleared_columns p m chart) ≡ drop cells chart
  unfolding cleared_columns
  columns-cleared-behind zero h = refl
  columns-cleared-behind (suc m) h =
      column-cleared-behind _ (cleared_columns p m chart) (omega arith) ∙ columns-cleared-behind m (omega arith)

  columns-cleared-other : (m : ℕ) → p + m ≤ max_input → (i j : ℕ) → j ≤ max_input → (p < j → j ≤ p + m → j < i)
      → cell (cleared_columns p m chart) i j ≡ cell chart i j
  unfolding cleared_columns
  columns-cleared-other zero h i j l d = refl
  columns-cleared-other (suc m) h i j l d =
      column-cleared-other _ (cleared_columns p m chart) (omega arith) i j l (λ e.
      let o : j < i = d (omega arith) (omega arith) in
      omega arith)
      ∙ columns-cleared-other m (omega arith) i j l (λ a b. d a (omega arith))

  columns-cleared-zero : (m : ℕ) → p + m ≤ max_input → cells ≤ length chart → (i j : ℕ) → p < j → j ≤ p + m → i ≤ j
      → cell (cleared_columns p m chart) i j ≡ 0
  unfolding cleared_columns
  columns-cleared-zero zero h c i j a b l = absurd (omega arith)
  columns-cleared-zero (suc m) h c i j a b l = dite (ℕ_discrete j (p + suc m))
      (λ e. ap (λ (n : ℕ). cell (cleared_column (p + suc m) (cleared_columns p m chart)) i n) e
      ∙ column-cleared-zero (p + suc m) (cleared_columns p m chart) h (omega (arith, columns-cleared-length m)) i (omega arith))
      (λ e. let d : j ≢ p + suc m = e in
      column-cleared-other (p + suc m) (cleared_columns p m chart) h i j (omega arith) (λ q. absurd (d q))
      ∙ columns-cleared-zero m (omega arith) c i j a (omega arith) l)

-- ---- all columns after column p

module _ (p : ℕ) (chart : List ℕ) where
  pub cleared-length : length (cleared p chart) ≡ length chart
  unfolding cleared
  cleared-length = columns-cleared-length p chart _

  -- what comes after the cells stays
  pub cleared-behind : p ≤ max_input → drop cells (cleared p chart) ≡ drop cells chart
  unfolding cleared
  cleared-behind h = columns-cleared-behind p chart _ (omega arith)

  -- the cells of the columns after p are zero
  pub cleared-zero : cells ≤ length chart → (i j : ℕ) → p < j → j ≤ max_input → i ≤ j → cell (cleared p chart) i j ≡ 0
  unfolding cleared
  cleared-zero c i j a b l = columns-cleared-zero p chart _ (omega arith) c i j a (omega arith) l

  -- the cells up to column p, and those below the diagonal, are as found
  pub cleared-other : p ≤ max_input → (i j : ℕ) → j ≤ max_input → (p < j → j < i) → cell (cleared p chart) i j ≡ cell chart i j
  unfolding cleared
  cleared-other h i j l d = columns-cleared-other p chart _ (omega arith) i j l (λ a b. d a)
