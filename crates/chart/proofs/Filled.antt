-- Opening and taking bytes, one after the other: which cells change; what comes after the cells stays and does not matter.
-- Assumes nothing.
use Prim.Native.Nat.{ℕ, suc, ◌+◌, ◌≤◌, ◌<◌}
use mathlib.Core.List.{List, [], ◌∷◌, ◌++◌, append-nil}
use mathlib.Core.Path.{◌≡◌, refl, sym, ap, ◌∙◌}
use native.Mathlib.Omega.{arith}
use lib.ListN.{length, get_or, take, drop, replicate, length-append, length-drop, length-replicate, get_or-replicate, get_or-append}
use lib.Seq.{append_snoc, get_or-take, take_at, drop_at}
use Rattle.sizes.specs.Sizes.{cells, max_input}
use Rattle.cfg.specs.Grammar.{Cfg}
use Rattle.chart.specs.Cell.{Fit, cell, index, fits_at}
use Rattle.chart.specs.Column.{column, put_column, written, opened, extended, extended_by, filled}
use Rattle.chart.proofs.Written.{put-before, written-length, written_behind, written-cell-other}
use Rattle.chart.proofs.Cells.{column-cong, column-length}

-- what is written depends only on the cells
pub written-before : (G : Cfg) (fit : Fit) (n : ℕ) (chart : List ℕ) → n ≤ max_input
    → take cells (written G fit n chart) ≡ written G fit n (take cells chart)
unfolding written
written-before G fit n chart h =
    put-before (column G fit chart n (suc n)) chart n 0 h (omega (arith, column-length G fit chart n (suc n)))
    ∙ ap (put_column (take cells chart) n 0)
    (column-cong G fit fit chart (take cells chart) n (λ a t _. refl)
    (λ a b l m. sym (get_or-take cells chart (index a b) 0 (omega arith))) (suc n))

-- the length after one more byte
pub length-snoc : (v : List ℕ) (m : ℕ) → length (v ++ (m ∷ [])) ≡ suc (length v)
length-snoc v m = omega (arith, length-append v (m ∷ []))

-- ---- taking bytes

module _ (G : Cfg) where
  pub extended-length : (w chart : List ℕ) → length (extended G w chart) ≡ length chart
  unfolding extended
  extended-length w chart = written-length G (fits_at w) (length w) chart

  -- if each column that comes after the bytes v keeps f of a chart, then taking the bytes u keeps it
  extended_by-keeps : {A : Type 0} (f : List ℕ → A) (v u chart : List ℕ)
      → ((x c : List ℕ) → length v < length x → length x ≤ length v + length u → f (written G (fits_at x) (length x) c) ≡ f c)
      → f (extended_by G v u chart) ≡ f chart
  unfolding extended_by extended
  extended_by-keeps f v [] chart k = refl
  extended_by-keeps f v (m ∷ u) chart k =
      let v' = v ++ (m ∷ []) in
      let e : length v' ≡ suc (length v) = length-snoc v m in
      extended_by-keeps f v' u (extended G v' chart) (λ x c a b. k x c (omega arith) (omega arith))
      ∙ k v' chart (omega arith) (omega arith)

  pub extended_by-length : (v u chart : List ℕ) → length (extended_by G v u chart) ≡ length chart
  extended_by-length v u chart = extended_by-keeps length v u chart (λ x c a b. written-length G (fits_at x) (length x) c)

  pub extended_by-behind : (v u chart : List ℕ) → length v + length u ≤ max_input → drop cells (extended_by G v u chart) ≡ drop cells chart
  extended_by-behind v u chart h =
      extended_by-keeps (drop cells) v u chart (λ x c a b. written_behind G (fits_at x) (length x) c (omega arith))

  pub extended_by-before : (v u chart : List ℕ) → length v + length u ≤ max_input
      → take cells (extended_by G v u chart) ≡ extended_by G v u (take cells chart)
  unfolding extended_by extended
  extended_by-before v [] chart h = refl
  extended_by-before v (m ∷ u) chart h =
      let v' = v ++ (m ∷ []) in
      let e : length v' ≡ suc (length v) = length-snoc v m in
      extended_by-before v' u (extended G v' chart) (omega arith)
      ∙ ap (extended_by G v' u) (written-before G (fits_at v') (length v') chart (omega arith))

  -- a cell outside the columns of the bytes taken stays
  pub extended_by-other : (v u chart : List ℕ) (i j : ℕ) → length v + length u ≤ max_input → j ≤ max_input
      → ((n : ℕ) → length v < n → n ≤ length v + length u → j ≡ n → n < i) → cell (extended_by G v u chart) i j ≡ cell chart i j
  extended_by-other v u chart i j h l d = extended_by-keeps (λ (c : List ℕ). cell c i j) v u chart
      (λ x c a b. written-cell-other G (fits_at x) (length x) c (omega arith) i j l (d (length x) a b))

  pub extended_by-append : (v x y chart : List ℕ) → extended_by G v (x ++ y) chart ≡ extended_by G (v ++ x) y (extended_by G v x chart)
  unfolding extended_by
  extended_by-append v [] y chart = ap (λ (z : List ℕ). extended_by G z y chart) (sym (append-nil v))
  extended_by-append v (m ∷ x) y chart =
      let v' = v ++ (m ∷ []) in
      extended_by-append v' x y (extended G v' chart)
      ∙ ap (λ (z : List ℕ). extended_by G z y (extended_by G v' x (extended G v' chart))) (append_snoc v m x)

  -- filling with a longer input goes on where the shorter one ended
  pub filled-append : (x y chart : List ℕ) → filled G (x ++ y) chart ≡ extended_by G x y (filled G x chart)
  unfolding filled
  filled-append x y chart = extended_by-append [] x y (opened G chart)

  pub filled-snoc : (x : List ℕ) (m : ℕ) (chart : List ℕ) → filled G (x ++ (m ∷ [])) chart ≡ extended G (x ++ (m ∷ [])) (filled G x chart)
  unfolding extended_by
  filled-snoc x m chart = filled-append x (m ∷ []) chart

-- ---- opening

-- c zeros, and then what came after the first c numbers
module _ (c : ℕ) (chart : List ℕ) where
  abbrev pub cleared : List ℕ
  cleared = replicate c 0 ++ drop c chart

  pub cleared-length : c ≤ length chart → length cleared ≡ length chart
  cleared-length h = omega (arith, length-append (replicate c 0) (drop c chart), length-replicate {A = ℕ} c 0, length-drop c chart)

  pub cleared-behind : drop c cleared ≡ drop c chart
  cleared-behind = drop_at (replicate c 0) (drop c chart) c (length-replicate {A = ℕ} c 0)

  pub cleared-before : take c cleared ≡ replicate c 0
  cleared-before = take_at (replicate c 0) (drop c chart) c (length-replicate {A = ℕ} c 0)

  pub cleared-zero : (p : ℕ) → p < c → get_or cleared p 0 ≡ 0
  cleared-zero p h = get_or-append (replicate c 0) (drop c chart) 0 p (omega (arith, length-replicate {A = ℕ} c 0))
      ∙ get_or-replicate c p 0 0 h

module _ (G : Cfg) (chart : List ℕ) where
  pub opened-length : cells ≤ length chart → length (opened G chart) ≡ length chart
  unfolding opened
  opened-length h = written-length G (fits_at []) 0 (cleared cells chart) ∙ cleared-length cells chart h

  pub opened-behind : drop cells (opened G chart) ≡ drop cells chart
  unfolding opened
  opened-behind = written_behind G (fits_at []) 0 (cleared cells chart) (omega arith) ∙ cleared-behind cells chart

  pub opened-before : take cells (opened G chart) ≡ written G (fits_at []) 0 (replicate cells 0)
  unfolding opened
  opened-before = written-before G (fits_at []) 0 (cleared cells chart) (omega arith)
      ∙ ap (written G (fits_at []) 0) (cleared-before cells chart)

  pub opened-zero : (i j : ℕ) → i ≤ max_input → j ≤ max_input → (j ≡ 0 → 0 < i) → cell (opened G chart) i j ≡ 0
  unfolding opened
  opened-zero i j h l d =
      written-cell-other G (fits_at []) 0 (cleared cells chart) (omega arith) i j l d ∙ cleared-zero cells chart (index i j) (omega arith)
