-- Clearing the chart, opening it, and taking the bytes of an input one after the other. Assumes nothing.
use Prim.Native.Nat.{ℕ, suc, ◌+◌, ◌^◌, ◌≤◌, ◌<◌}
use mathlib.Core.List.{List, [], ◌∷◌, ◌++◌}
use mathlib.Core.Path.{◌≡◌, refl, sym, ap, ◌∙◌, subst}
use native.Mathlib.Numerals.{add-one}
use native.Mathlib.Omega.{arith}
use lib.ListN.{length, get_or, take, drop, set, replicate, length-append, length-drop, length-replicate}
use lib.Seq.{append_snoc, set_at, drop-cons, take-suc, length-take-le, get_or-take}
use borrow.Author.Tests.{lt-ltb}
use Rattle.sizes.specs.Sizes.{cells, max_input}
use Rattle.cfg.specs.Grammar.{Terminal}
use Rattle.chart.specs.Cell.{fits_at}
use Rattle.chart.specs.Column.{opened, extended, extended_by, filled}
use Rattle.chart.proofs.Filled.{extended_by-append}
use Rattle.packed.specs.Packed.{cfg_in, Used, terminal_in}
use Rattle.packed_fit.specs.Fit.{Told, FitTold}
use Rattle.packed_fit.proofs.Reading.{fit-told}
use Rattle.fill_words.specs.Spans.{ends_size}
use Rattle.fill_words.specs.Ends.{EndsTo, ColumnsPut}
use Rattle.fill_empty.specs.Empty.{EmptyClosed, EmptyTold}
use Rattle.fill_columns.specs.Columns.{column_of, OpenedWith, ColumnWritten, PositionsTaken}
use Rattle.fill_columns.proofs.Writing.{column-zero}
use Rattle.fill_columns.proofs.Telling.{ends-zero, told-on}

-- a store at the end of what was stored so far
pub set_next : (pre l : List ℕ) (i b : ℕ) → length pre ≡ i → i < length l → set (pre ++ drop i l) i b ≡ (pre ++ (b ∷ [])) ++ drop (i + 1) l
set_next pre l i b e h =
    ap (λ (x : List ℕ). set (pre ++ x) i b) (drop-cons l i 0 h)
    ∙ set_at pre (get_or l i 0) (drop (suc i) l) b i e
    ∙ sym (append_snoc pre b (drop (suc i) l))
    ∙ ap (λ (x : ℕ). (pre ++ (b ∷ [])) ++ drop x l) (sym (add-one i))

-- ---- clearing

cleared-length : (n : ℕ) (l : List ℕ) → n ≤ length l → length (replicate n 0 ++ drop n l) ≡ length l
cleared-length n l h = simp (length-append, length-replicate, length-drop) (omega arith)

-- ---- opening and filling

pub opened_with : (own : ℕ) (chart chart₁ : List ℕ) → chart₁ ≡ replicate cells 0 ++ drop cells chart
    → OpenedWith own chart (set chart₁ 0 own)
opened_with own chart chart₁ e = ap (λ (x : List ℕ). set x 0 own) e

pub opened-is : (p : List ℕ) (rules own : ℕ) (lasts chart chart' : List ℕ) → cells ≤ length chart → Used p rules → own < 2 ^ 32
    → EmptyClosed p rules own lasts → OpenedWith own chart chart' → chart' ≡ opened (cfg_in 0 p) chart
unfolding opened
opened-is p rules own lasts chart chart' room used word closed e =
    e ∙ column-zero p (fits_at []) rules own lasts (replicate cells 0 ++ drop cells chart) (omega (arith, cleared-length cells chart room))
    used word closed

module _ (p w start : List ℕ) where
  pub fill_step : (m m' : ℕ) (chart chart' : List ℕ) → m' ≡ m + 1 → m < length w → chart ≡ extended_by (cfg_in 0 p) [] (take m w) start
      → chart' ≡ column_of p (take m' w) m' chart → chart' ≡ extended_by (cfg_in 0 p) [] (take m' w) start
  unfolding extended_by extended
  fill_step m m' chart chart' s h e f =
      let t : take m' w ≡ take m w ++ (get_or w m 0 ∷ []) = ap (λ (x : ℕ). take x w) (s ∙ add-one m) ∙ take-suc w m 0 h in
      let l : m' ≡ length (take m' w) = sym (length-take-le m' w (omega arith)) in
      f ∙ ap (λ (x : ℕ). column_of p (take m' w) x chart) l
      ∙ ap (extended (cfg_in 0 p) (take m' w)) e
      ∙ ap (λ (x : List ℕ). extended (cfg_in 0 p) x (extended_by (cfg_in 0 p) [] (take m w) start)) t
      ∙ sym (extended_by-append (cfg_in 0 p) [] (take m w) (get_or w m 0 ∷ []) start)
      ∙ ap (λ (x : List ℕ). extended_by (cfg_in 0 p) [] x start) (sym t)

-- ---- the ends, while an input is taken

-- what the fit table says of an input it says of its first bytes
fits-take : (w : List ℕ) (m i : ℕ) (s : Terminal) → i < m → m ≤ length w → fits_at w i s ≡ fits_at (take m w) i s
unfolding fits_at
fits-take w m i s l h = rw (
  lt-ltb i (length w) (omega arith),
  lt-ltb i (length (take m w)) (omega (arith, length-take-le m w h)),
  get_or-take m w i 0 l,
)

told-take : (p t w : List ℕ) (m n : ℕ) → m ≤ n → length w ≡ n → FitTold (fits_at w) p t n → FitTold (fits_at (take m w)) p t m
told-take p t w m n h e tells i r q l b c d = tells i r q (omega arith) b c d ∙ fits-take w m i (terminal_in p r q) l (omega arith)

module _ (p t : List ℕ) (n : ℕ) (start : List ℕ) where
  -- m positions are taken, and the ends of the columns before m are known
  pub record FillTo (m : ℕ) (chart ends reach : List ℕ) : Type 0 where
    pub within : m ≤ n
    pub long : length chart ≡ length start
    pub taken : (w : List ℕ) → length w ≡ n → FitTold (fits_at w) p t n
        → (chart ≡ extended_by (cfg_in 0 p) [] (take m w) start) × EndsTo chart m 0 ends reach
    pub ends-long : length ends ≡ ends_size
    pub reach_long : length reach ≡ max_input

  fill-from : (k l : ℕ) → k ≡ ends_size → l ≡ max_input → EndsTo start 0 0 (replicate k 0) (replicate l 0)
      → FillTo 0 start (replicate k 0) (replicate l 0)
  unfolding extended_by
  fill-from k l e f to = record {
    within = omega arith;
    long = refl;
    taken = λ w _ _. (refl, to);
    ends-long = length-replicate {A = ℕ} k 0 ∙ e;
    reach_long = length-replicate {A = ℕ} l 0 ∙ f;
  }

  pub fill-zero : FillTo 0 start (replicate ends_size 0) (replicate max_input 0)
  fill-zero = fill-from ends_size max_input refl refl (ends-zero start)

  pub fill-go : (m m' : ℕ) (chart chart' ends reach ends' reach' : List ℕ) → m' ≡ m + 1 → m < n → n ≤ max_input
      → ColumnsPut chart m (m + 1) ends reach ends' reach' → ColumnWritten p t m' ends' reach' chart chart' → FillTo m chart ends reach
      → FillTo m' chart' ends' reach'
  fill-go m m' chart chart' ends reach ends' reach' e l small put column to = record {
    within = omega arith;
    long = column.long ∙ to.long;
    taken = taken;
    ends-long = put.long;
    reach_long = put.reach_long;
  }
    where
      taken : (w : List ℕ) → length w ≡ n → FitTold (fits_at w) p t n
          → (chart' ≡ extended_by (cfg_in 0 p) [] (take m' w) start) × EndsTo chart' m' 0 ends' reach'
      taken w d tells =
          let (x, y) = to.taken w d tells in
          let z = subst (λ (n : ℕ). EndsTo chart n 0 ends' reach') (sym e) (put.step y) in
          let f = column.exact (fits_at (take m' w)) (told-take p t w m' n (omega arith) d tells) z in
          let g = told-on p (fits_at (take m' w)) chart chart' m' ends' reach' (omega arith) f z in
          (fill_step p w start m m' chart chart' e (omega arith) x f, g)

-- ---- opening and taking

pub filled_is : (p t : List ℕ) (n rules own : ℕ) (lasts kinds found start chart : List ℕ) → cells ≤ length found → Used p rules
    → own < 2 ^ 32 → EmptyTold p rules own lasts kinds → OpenedWith own found start → PositionsTaken p t n start chart
    → (w : List ℕ) → length w ≡ n → FitTold (fits_at w) p t n → chart ≡ filled (cfg_in 0 p) w found
unfolding filled
filled_is p t n rules own lasts kinds found start chart room used word told first taken w d tells =
    taken.exact w d tells
    ∙ ap (extended_by (cfg_in 0 p) [] w) (opened-is p rules own lasts found start room used word told.closed first)

-- ---- one column of an input

pub column-of : (p w t : List ℕ) (n : ℕ) (ends reach chart chart' : List ℕ) → n ≤ max_input → Told p w t
    → ColumnsPut chart 0 n (replicate ends_size 0) (replicate max_input 0) ends reach → ColumnWritten p t n ends reach chart chart'
    → chart' ≡ column_of p w n chart
column-of p w t n ends reach chart chart' small told put column =
    column.exact (fits_at w) (fit-told p w t n small told) (put.step (ends-zero chart))
