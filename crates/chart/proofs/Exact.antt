-- A chart is exact up to a column if its cells have exactly the nonterminals that derive their spans. Opening makes it so, and writing the
-- next column and taking bytes keep it so. Assumes nothing.
use Prim.Native.Nat.{ℕ, suc, ◌+◌, ◌≤◌, ◌<◌}
use mathlib.Core.Bool.{true}
use mathlib.Core.List.{List, [], ◌∷◌, ◌++◌, append-nil}
use mathlib.Core.Logic.{dite}
use mathlib.Core.Path.{◌≡◌, sym, ap, ◌∙◌, subst}
use native.Mathlib.Decide.{dec_lt}
use native.Mathlib.Omega.{arith}
use lib.ListN.{length}
use lib.Seq.{slice, append_snoc}
use Rattle.sizes.specs.Sizes.{cells, max_input}
use Rattle.laws.proofs.Lists.{below_step}
use Rattle.sets.specs.Set.{has}
use Rattle.cfg.specs.Grammar.{Cfg}
use Rattle.chart.specs.Cell.{cell, fits_at}
use Rattle.chart.specs.Column.{written, opened, extended, extended_by, filled}
use Rattle.chart.proofs.Cut.{cut-mono}
use Rattle.chart.proofs.Derived.{Bounded}
use Rattle.chart.proofs.Cells.{in_column}
use Rattle.chart.proofs.Inside.{Piece, ClosedBy, column-closed-by, column-inside}
use Rattle.chart.proofs.Slices.{slice-before}
use Rattle.chart.proofs.Trees.{Node, cut→row, row→cut}
use Rattle.chart.proofs.Written.{written-cell, written-cell-other}
use Rattle.chart.proofs.Filled.{length-snoc, extended-length, opened-length, cleared, cleared-length}

-- the cells of the spans that end before m have exactly what derives them
pub record Exact (G : Cfg) (w : List ℕ) (m : ℕ) (chart : List ℕ) : Type 0 where
  pub sound : (i j k : ℕ) → i ≤ j → j < m → has k (cell chart i j) ≡ true → Node G k (slice i j w)
  pub full : (i j k : ℕ) → i ≤ j → j < m → Node G k (slice i j w) → has k (cell chart i j) ≡ true

-- ---- the next column

module _ (G : Cfg) (low : Bounded G) (w : List ℕ) (n : ℕ) (l : n ≤ length w) (chart : List ℕ) (x : Exact G w n chart) where
  nodes-closed : ClosedBy G (fits_at w) chart n (λ (k a : ℕ). Node G k (slice a n w))
  nodes-closed i r k h o c = (r, o, cut→row G w n l (cut-mono i n (λ a t _ q. q) piece (omega arith) c))
    where
      piece : (j a b : ℕ) → i ≤ a → a ≤ b → b ≤ n → Piece chart n (λ (k a : ℕ). Node G k (slice a n w)) j a b → Node G j (slice a b w)
      piece j a b u u' u'' p = dite (dec_lt b n)
          (λ m. x.sound a b j u' m (p.0 m))
          (λ m. let e : n ≡ b = omega arith in subst (λ (y : ℕ). Node G j (slice a y w)) e (p.1 (omega arith)))

  pub column-sound : (i k : ℕ) → i ≤ n → has k (in_column G (fits_at w) chart n i) ≡ true → Node G k (slice i n w)
  column-sound = column-inside G (fits_at w) chart n (λ (k a : ℕ). Node G k (slice a n w)) nodes-closed

  pub column-full : (i k : ℕ) → i ≤ n → Node G k (slice i n w) → has k (in_column G (fits_at w) chart n i) ≡ true
  column-full i k h (r, o, (below, f, e)) =
      let c = column-closed-by G (fits_at w) chart n low in
      c i r k h o (row→cut G w n l chart (λ (j a : ℕ). has j (in_column G (fits_at w) chart n a) ≡ true) c
      (λ j a b u v. x.full a b j u v) f i h e)

pub exact-written : (G : Cfg) → Bounded G → (w : List ℕ) (n : ℕ) → n ≤ length w → n ≤ max_input → (chart : List ℕ) → cells ≤ length chart
    → Exact G w n chart → Exact G w (suc n) (written G (fits_at w) n chart)
exact-written G low w n l h chart c x = record {
  sound = λ i j k a b. below_step (λ (y : ℕ). i ≤ y → has k (cell made i y) ≡ true → Node G k (slice i y w)) n
      (λ y m u e. x.sound i y k u m (ap (has k) (sym (same i y m)) ∙ e))
      (λ u e. column-sound G low w n l chart x i k u (ap (has k) (sym (last i u)) ∙ e)) j (omega arith) a;
  full = λ i j k a b. below_step (λ (y : ℕ). i ≤ y → Node G k (slice i y w) → has k (cell made i y) ≡ true) n
      (λ y m u t. ap (has k) (same i y m) ∙ x.full i y k u m t)
      (λ u t. ap (has k) (last i u) ∙ column-full G low w n l chart x i k u t) j (omega arith) a;
}
  where
    made : List ℕ
    made = written G (fits_at w) n chart

    same : (i j : ℕ) → j < n → cell made i j ≡ cell chart i j
    same i j m = written-cell-other G (fits_at w) n chart h i j (omega arith) (λ e. omega arith)

    last : (i : ℕ) → i ≤ n → cell made i n ≡ in_column G (fits_at w) chart n i
    last i u = written-cell G (fits_at w) n chart h c i u

-- ---- opening, and taking bytes

pub exact-opened : (G : Cfg) → Bounded G → (chart : List ℕ) → cells ≤ length chart → Exact G [] 1 (opened G chart)
unfolding opened
exact-opened G low chart c = exact-written G low [] 0 (omega arith) (omega arith) (cleared cells chart)
    (omega (arith, cleared-length cells chart c))
    (record { sound = λ i j k a b. absurd (omega arith); full = λ i j k a b. absurd (omega arith) })

-- the same columns are exact for a longer input
pub exact-longer : (G : Cfg) (v u : List ℕ) (m : ℕ) (chart : List ℕ) → m ≤ suc (length v) → Exact G v m chart → Exact G (v ++ u) m chart
exact-longer G v u m chart h x =
    record {
      sound = λ i j k a b e. subst (Node G k) (sym (slice-before i j v u (omega arith))) (x.sound i j k a b e);
      full = λ i j k a b t. x.full i j k a b (subst (Node G k) (slice-before i j v u (omega arith)) t);
    }

pub exact-extended : (G : Cfg) → Bounded G → (v : List ℕ) (m : ℕ) (chart : List ℕ) → length v < max_input → cells ≤ length chart
    → Exact G v (suc (length v)) chart → Exact G (v ++ (m ∷ [])) (suc (length (v ++ (m ∷ [])))) (extended G (v ++ (m ∷ [])) chart)
unfolding extended
exact-extended G low v m chart h c x =
    let v' = v ++ (m ∷ []) in
    let e : length v' ≡ suc (length v) = length-snoc v m in
    exact-written G low v' (length v') (omega arith) (omega arith) chart c
    (subst (λ (p : ℕ). Exact G v' p chart) (sym e) (exact-longer G v (m ∷ []) (suc (length v)) chart (omega arith) x))

pub exact-extended_by : (G : Cfg) → Bounded G → (v u chart : List ℕ) → length v + length u ≤ max_input → cells ≤ length chart
    → Exact G v (suc (length v)) chart → Exact G (v ++ u) (suc (length (v ++ u))) (extended_by G v u chart)
unfolding extended_by
exact-extended_by G low v [] chart h c x = subst (λ (y : List ℕ). Exact G y (suc (length y)) chart) (sym (append-nil v)) x
exact-extended_by G low v (m ∷ u) chart h c x =
    let v' = v ++ (m ∷ []) in
    let e : length v' ≡ suc (length v) = length-snoc v m in
    subst (λ (y : List ℕ). Exact G y (suc (length y)) (extended_by G v' u (extended G v' chart))) (append_snoc v m u)
    (exact-extended_by G low v' u (extended G v' chart) (omega arith)
    (omega (arith, extended-length G v' chart)) (exact-extended G low v m chart (omega arith) c x))

pub exact-filled : (G : Cfg) → Bounded G → (w chart : List ℕ) → length w ≤ max_input → cells ≤ length chart
    → Exact G w (suc (length w)) (filled G w chart)
unfolding filled
exact-filled G low w chart h c =
    exact-extended_by G low [] w (opened G chart) (omega arith) (omega (arith, opened-length G chart c)) (exact-opened G low chart c)
