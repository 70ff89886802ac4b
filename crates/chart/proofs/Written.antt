-- Writing a column: what the cells hold afterwards, and that nothing else is written. Assumes nothing.
use Prim.Native.Nat.{ℕ, suc, ◌+◌, ◌-◌, ◌≤◌, ◌<◌}
use mathlib.Core.List.{List, [], ◌∷◌}
use mathlib.Core.Logic.{◌≢◌, dite}
use mathlib.Core.Path.{◌≡◌, refl, sym, ap, ◌∙◌}
use native.Mathlib.Decide.{ℕ_discrete}
use native.Mathlib.Omega.{arith}
use lib.ListN.{length, get_or, take, drop, set, length-set}
use lib.Seq.{get_or-set_same, get_or-set_other, drop-set-lt, take-set-lt}
use Rattle.sizes.specs.Sizes.{cells, max_input, side}
use Rattle.cfg.specs.Grammar.{Cfg}
use Rattle.chart.specs.Cell.{Fit, cell, index}
use Rattle.chart.specs.Column.{column, put_column, written}
use Rattle.chart.proofs.Cells.{column-length}

-- two cells with one index are the same cell
pub index-inj : (i j a b : ℕ) → j ≤ max_input → b ≤ max_input → index i j ≡ index a b → (i ≡ a) × (j ≡ b)
index-inj i j a b h l e = let x : i ≡ a = omega arith in (x, omega arith)

-- ---- any cells

pub put-length : (vs chart : List ℕ) (n i : ℕ) → length (put_column chart n i vs) ≡ length chart
unfolding put_column
put-length [] chart n i = refl
put-length (v ∷ vs) chart n i = put-length vs (set chart (index i n) v) n (suc i) ∙ length-set chart (index i n) v

pub put-behind : (vs chart : List ℕ) (n i : ℕ) → n ≤ max_input → i + length vs ≤ side
    → drop cells (put_column chart n i vs) ≡ drop cells chart
unfolding put_column
put-behind [] chart n i h l = refl
put-behind (v ∷ vs) chart n i h l =
    put-behind vs (set chart (index i n) v) n (suc i) h (omega arith) ∙ drop-set-lt cells chart (index i n) v (omega arith)

pub put-before : (vs chart : List ℕ) (n i : ℕ) → n ≤ max_input → i + length vs ≤ side
    → take cells (put_column chart n i vs) ≡ put_column (take cells chart) n i vs
unfolding put_column
put-before [] chart n i h l = refl
put-before (v ∷ vs) chart n i h l =
    put-before vs (set chart (index i n) v) n (suc i) h (omega arith)
    ∙ ap (λ (c : List ℕ). put_column c n (suc i) vs) (take-set-lt cells chart (index i n) v (omega arith))

-- what is at no index of the column stays
pub put_other : (vs chart : List ℕ) (n i p : ℕ) → ((a : ℕ) → i ≤ a → a < i + length vs → p ≢ index a n)
    → get_or (put_column chart n i vs) p 0 ≡ get_or chart p 0
unfolding put_column
put_other [] chart n i p h = refl
put_other (v ∷ vs) chart n i p h =
    put_other vs (set chart (index i n) v) n (suc i) p (λ a l m. h a (omega arith) (omega arith))
    ∙ get_or-set_other chart (index i n) p v 0 (h i (omega arith) (omega arith))

pub put_same : (vs chart : List ℕ) (n i a : ℕ) → n ≤ max_input → cells ≤ length chart → i + length vs ≤ side → i ≤ a → a < i + length vs
    → cell (put_column chart n i vs) a n ≡ get_or vs (a - i) 0
unfolding put_column
put_same [] chart n i a h c l m o = absurd (omega arith)
put_same (v ∷ vs) chart n i a h c l m o = let chart' = set chart (index i n) v in dite (ℕ_discrete a i)
    (λ e. let q : a - i ≡ 0 = omega arith in
    let s : index a n ≡ index i n = omega arith in
    let r : index i n < length chart = omega arith in
    ap (λ (p : ℕ). get_or (put_column chart' n (suc i) vs) p 0) s
    ∙ put_other vs chart' n (suc i) (index i n) (λ b x y. omega arith)
    ∙ get_or-set_same chart (index i n) v 0 r
    ∙ ap (λ (p : ℕ). get_or (v ∷ vs) p 0) (sym q))
    (λ e. let d : a ≢ i = e in
    let q : a - i ≡ suc (a - suc i) = omega arith in
    rw q (put_same vs chart' n (suc i) a h (omega (arith, length-set chart (index i n) v)) (omega arith) (omega arith) (omega arith)))

-- ---- the column

module _ (G : Cfg) (fit : Fit) (n : ℕ) (chart : List ℕ) where
  -- the column has n + 1 cells
  whole : length (column G fit chart n (suc n)) ≡ suc n
  whole = column-length G fit chart n (suc n)

  pub written-length : length (written G fit n chart) ≡ length chart
  unfolding written
  written-length = put-length (column G fit chart n (suc n)) chart n 0

  pub written_behind : n ≤ max_input → drop cells (written G fit n chart) ≡ drop cells chart
  unfolding written
  written_behind h = put-behind (column G fit chart n (suc n)) chart n 0 h (omega (arith, whole))

  -- no other word is written
  pub written-other : (p : ℕ) → ((a : ℕ) → a ≤ n → p ≢ index a n) → get_or (written G fit n chart) p 0 ≡ get_or chart p 0
  unfolding written
  written-other p h = put_other (column G fit chart n (suc n)) chart n 0 p (λ a l m. h a (omega (arith, whole)))

  -- the cells of column n hold the column
  pub written-cell : n ≤ max_input → cells ≤ length chart → (i : ℕ) → i ≤ n
      → cell (written G fit n chart) i n ≡ get_or (column G fit chart n (suc n)) i 0
  unfolding written
  written-cell h c i l =
      let e : i - 0 ≡ i = omega arith in
      put_same (column G fit chart n (suc n)) chart n 0 i h c (omega (arith, whole)) (omega arith) (omega (arith, whole))
      ∙ ap (λ (p : ℕ). get_or (column G fit chart n (suc n)) p 0) e

  -- the other cells are as found
  pub written-cell-other : n ≤ max_input → (i j : ℕ) → j ≤ max_input → (j ≡ n → n < i) → cell (written G fit n chart) i j ≡ cell chart i j
  written-cell-other h i j l d = written-other (index i j) (λ a m e.
      let q = index-inj i j a n l h e in
      let o : n < i = d q.1 in
      omega arith)
