-- The cells of a column: each is 32 rounds of the rules over what it sees: its own set, the later cells of its column and earlier columns.
-- A column depends only on the cells of earlier columns and on the bytes before it. Assumes nothing.
use Prim.Native.Nat.{ℕ, zero, suc, ◌+◌, ◌-◌, ◌^◌, ◌≤◌, ◌<◌}
use mathlib.Core.List.{List, ◌∷◌}
use mathlib.Core.Logic.{dite}
use mathlib.Core.Path.{◌≡◌, refl, sym, ap, ◌∙◌, fun_ext}
use native.Mathlib.Decide.{dec_lt}
use native.Mathlib.Omega.{arith}
use lib.ListN.{length, get_or, drop}
use lib.Seq.{get_or-drop}
use borrow.Author.Tests.{lt-ltb, le-ltb}
use Rattle.cfg.specs.Grammar.{Cfg, Terminal}
use Rattle.chart.specs.Cell.{Fit, cell, derived}
use Rattle.chart.specs.Column.{seen, times, least, column}
use Rattle.chart.proofs.Cut.{cuts-cong}
use Rattle.chart.proofs.Derived.{derived-cong, derived-lt, Bounded, bounded_at}

-- ---- what a cell sees

module _ (chart : List ℕ) (n i : ℕ) (later : List ℕ) (own a b : ℕ) where
  pub seen-earlier : b < n → seen chart n i later own a b ≡ cell chart a b
  unfolding seen
  seen-earlier h = rw (lt-ltb b n h, seen)

  pub seen-column : n ≤ b → seen chart n i later own a b ≡ get_or (own ∷ later) (a - i) 0
  unfolding seen
  seen-column h = rw (le-ltb b n h, seen)

-- ---- one round

-- one round of the rules at cell (i, n), for its own set
unfoldable pub round : Cfg → Fit → List ℕ → ℕ → ℕ → List ℕ → ℕ → ℕ
round G fit chart n i later own = derived fit (seen chart n i later own) G.rules i n

-- ---- the column

pub column-length : (G : Cfg) (fit : Fit) (chart : List ℕ) (n m : ℕ) → length (column G fit chart n m) ≡ m
unfolding column
column-length G fit chart n zero = refl
column-length G fit chart n (suc m) = ap suc (column-length G fit chart n m)

module _ (G : Cfg) (fit : Fit) (chart : List ℕ) (n : ℕ) where
  pub column-drop : (d m l : ℕ) → m ≡ d + l → drop d (column G fit chart n m) ≡ column G fit chart n l
  unfolding column
  column-drop zero m l e = let q : m ≡ l = omega arith in ap (column G fit chart n) q
  column-drop (suc d) zero l e = absurd (omega arith)
  column-drop (suc d) (suc m) l e = column-drop d m l (omega arith)

  -- cell (i, n) of the column
  abbrev pub in_column : ℕ → ℕ
  in_column i = get_or (column G fit chart n (suc n)) i 0

  -- the cells from the start i on
  pub from_start : (i a : ℕ) → i ≤ n → i ≤ a → get_or (column G fit chart n (suc (n - i))) (a - i) 0 ≡ in_column a
  from_start i a h l =
      let e : i + (a - i) ≡ a = omega arith in
      ap (λ (c : List ℕ). get_or c (a - i) 0) (sym (column-drop i (suc n) (suc (n - i)) (omega arith)))
      ∙ get_or-drop i (column G fit chart n (suc n)) (a - i) 0
      ∙ ap in_column e

  pub cell-rounds : (i : ℕ) → i ≤ n → in_column i ≡ times 32 (round G fit chart n i (column G fit chart n (n - i))) 0
  unfolding column least round
  cell-rounds i h =
      let z : i - i ≡ 0 = omega arith in
      let e : n - (n - i) ≡ i = omega arith in
      sym (from_start i i h (omega arith))
      ∙ ap (λ (p : ℕ). get_or (column G fit chart n (suc (n - i))) p 0) z
      ∙ ap (λ (p : ℕ). least G fit chart n p (column G fit chart n (n - i))) e

  pub seen-own : (i own b : ℕ) → n ≤ b → seen chart n i (column G fit chart n (n - i)) own i b ≡ own
  seen-own i own b m =
      let z : i - i ≡ 0 = omega arith in
      seen-column chart n i (column G fit chart n (n - i)) own i b m ∙ ap (λ (p : ℕ). get_or (own ∷ column G fit chart n (n - i)) p 0) z

  -- a cell sees later starts whatever its own set is
  pub seen-later : (i own a b : ℕ) → i ≤ n → i < a → n ≤ b → seen chart n i (column G fit chart n (n - i)) own a b ≡ in_column a
  unfolding column
  seen-later i own a b h l m =
      let later = column G fit chart n (n - i) in
      let p : a - i ≡ suc (a - suc i) = omega arith in
      seen-column chart n i later own a b m
      ∙ ap (λ (q : ℕ). get_or (own ∷ later) q 0) p
      ∙ ap (λ (q : ℕ). get_or (column G fit chart n (suc (n - i))) q 0) (sym p)
      ∙ from_start i a h (omega arith)

-- each cell is a word of 32 bits
rounds-lt : (step : ℕ → ℕ) → ((v : ℕ) → step v < 2 ^ 32) → (t : ℕ) → times t step 0 < 2 ^ 32
unfolding times
rounds-lt step h zero = omega arith
rounds-lt step h (suc t) = h (times t step 0)

pub column-lt : (G : Cfg) → Bounded G → (fit : Fit) (chart : List ℕ) (n m i : ℕ)
    → get_or (column G fit chart n m) i 0 < 2 ^ 32
unfolding column least
column-lt G h fit chart n zero i = omega arith
column-lt G h fit chart n (suc m) zero =
    rounds-lt (λ (own : ℕ). derived fit (seen chart n (n - m) (column G fit chart n m) own) G.rules (n - m) n)
    (λ v. derived-lt fit (seen chart n (n - m) (column G fit chart n m) v) (n - m) n G.rules (bounded_at G h)) 32
column-lt G h fit chart n (suc m) (suc i) = column-lt G h fit chart n m i

-- ---- what a column depends on

module _ (G : Cfg) (fit fit' : Fit) (chart chart' : List ℕ) (n : ℕ)
    (f : (a : ℕ) (t : Terminal) → a < n → fit a t ≡ fit' a t)
    (c : (a b : ℕ) → a ≤ b → b < n → cell chart a b ≡ cell chart' a b) where
  seen-cong : (i own : ℕ) (later : List ℕ) (a b : ℕ) → a ≤ b → seen chart n i later own a b ≡ seen chart' n i later own a b
  seen-cong i own later a b h = dite (dec_lt b n)
      (λ l. seen-earlier chart n i later own a b l ∙ c a b h l ∙ sym (seen-earlier chart' n i later own a b l))
      (λ l. let m : n ≤ b = omega arith in seen-column chart n i later own a b m ∙ sym (seen-column chart' n i later own a b m))

  round-cong : (i : ℕ) → i ≤ n → (own : ℕ) (later : List ℕ) → round G fit chart n i later own ≡ round G fit' chart' n i later own
  unfolding round
  round-cong i h own later = derived-cong fit fit' (seen chart n i later own) (seen chart' n i later own) i n
      (cuts-cong i n h f (λ a b _ l _. seen-cong i own later a b l)) G.rules

  least-cong : (i : ℕ) → i ≤ n → (later : List ℕ) → least G fit chart n i later ≡ least G fit' chart' n i later
  unfolding least round
  least-cong i h later = ap (λ (s : ℕ → ℕ). times 32 s 0) (fun_ext (λ own. round-cong i h own later))

  pub column-cong : (m : ℕ) → column G fit chart n m ≡ column G fit' chart' n m
  unfolding column
  column-cong zero = refl
  column-cong (suc m) =
      let e = column-cong m in
      let h = least-cong (n - m) (omega arith) (column G fit chart n m) in
      let p = h ∙ ap (least G fit' chart' n (n - m)) e in
      λ i. p i ∷ e i
