-- The costs from one start by the word of the fit table, and from all starts, from the last to the first. Assumes nothing.
use Prim.Native.Nat.{ℕ, ◌+◌, ◌-◌, ◌≤◌, ◌<◌}
use mathlib.Core.List.{List}
use mathlib.Core.Path.{◌≡◌, ap, ◌∙◌}
use native.Mathlib.Decide.{ℕ_discrete}
use native.Mathlib.Omega.{arith}
use lib.ListN.{length, get_or}
use Rattle.sizes.specs.Sizes.{max_rules, side}
use Rattle.sets.specs.Set.{has}
use Rattle.chart.specs.Cell.{Fit}
use Rattle.packed.specs.Packed.{place_count}
use Rattle.table_layout.specs.Layout.{rows_size}
use Rattle.packed_fit.specs.Fit.{FitTold}
use Rattle.table_suffix.specs.Within.{tail_in, InsideCost, row_at, Word, ColumnPut}
use Rattle.table_suffix.specs.Rows.{WordAt, StartPut, RowsFrom, RowsPut}

-- ---- one start

module _ (p : List ℕ) (r : ℕ) (fits : List ℕ) where
  pub word_fits : {a j word : ℕ} (fit : Fit) → r < max_rules → WordAt fits r a j word → FitTold fit p fits j → Word fit p r a j word
  word_fits {a} fit h W F q l n m = ap (has q) (W.told m) ∙ F a r q m h l n

  pub start-put : {word : ℕ} {tables full : List ℕ} {i a from j at : ℕ} {rows₀ rows : List ℕ} → r < max_rules → WordAt fits r a j word
      → ColumnPut p r word tables full i a from j at rows₀ rows → StartPut p r fits tables full i a from j at rows₀ rows
  start-put h W C = record {
    long = C.long;
    other = C.other;
    exact = λ fit F. C.exact fit (word_fits fit h W F);
  }

-- ---- all starts

module _ (p : List ℕ) (r : ℕ) (fits tables full : List ℕ) (i j : ℕ) where
  pub rows_start : (rows : List ℕ) → length rows ≡ rows_size → RowsFrom p r fits tables full i (j + 1) j rows
  rows_start rows e = record { long = e; exact = λ fit F q c h l m. absurd (omega arith) }

  module _ (rows₀ rows : List ℕ) (n : ℕ) (k : i < n) (l : n ≤ j + 1) (b : j < side) (S : RowsFrom p r fits tables full i n j rows₀)
      (P : StartPut p r fits tables full i (n - 1) (n - 1 + 1) j 0 rows₀ rows) where
    at-start : (fit : Fit) → FitTold fit p fits j → (q c : ℕ) → q ≤ place_count p r → n - 1 ≤ c → c ≤ j → Dec (c ≡ n - 1)
        → InsideCost fit tables full i j (tail_in p r q) c (get_or rows (row_at 0 q c) 0)
    at-start fit F q c h m o (yes d) =
        rw d (P.exact fit F (λ s x y z u v w. absurd (omega arith)) (λ s x y z w. S.exact fit F s x y (omega arith) w) q h)
    at-start fit F q c h m o (no d) =
        let x : ¬ (c ≡ n - 1) = d in
        rw (P.other (row_at 0 q c) (λ s y z. x (omega arith))) (S.exact fit F q c h (omega arith) o)

    pub rows_back : RowsFrom p r fits tables full i (n - 1) j rows
    rows_back = record {
      long = P.long ∙ S.long;
      exact = λ fit F q c h m o. at-start fit F q c h m o (ℕ_discrete c (n - 1));
    }

  pub rows_end : {a : ℕ} {rows : List ℕ} → i ≤ a → a ≤ i → RowsFrom p r fits tables full i a j rows → RowsPut p r fits tables full i j rows
  rows_end {a} h l S = let e : a ≡ i = omega arith in rw e at S
