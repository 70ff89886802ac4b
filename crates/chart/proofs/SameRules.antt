-- Grammars that give each number the same rule have the same charts: neither column is larger than the other, since each is closed under
-- the rules of both. Assumes nothing.
use Prim.Native.Nat.{ℕ, suc, ◌≤◌}
use mathlib.Core.Bool.{true}
use mathlib.Core.List.{List, [], ◌∷◌, ◌++◌}
use mathlib.Core.Path.{◌≡◌, refl, sym, ap, ◌∙◌}
use native.Mathlib.Omega.{arith}
use lib.ListN.{length, drop, replicate}
use lib.Seq.{ext_get_or}
use Rattle.laws.proofs.Bools.{bool-ext}
use Rattle.sets.specs.Set.{has}
use Rattle.sets.proofs.Laws.{set-ext}
use Rattle.cfg.specs.Grammar.{Cfg, rule, Of}
use Rattle.sizes.specs.Sizes.{cells}
use Rattle.chart.specs.Cell.{Fit, fits_at}
use Rattle.chart.specs.Column.{column, put_column, written, opened, extended, extended_by, filled}
use Rattle.chart.proofs.Derived.{Bounded}
use Rattle.chart.proofs.Cells.{in_column}
use Rattle.chart.proofs.Least.{column-length, column-lt, column-closed, column-least}

-- each number has the same rule in both, or none
abbrev pub SameRules : Cfg → Cfg → Type 0
SameRules G G' = (r : ℕ) → rule G r ≡ rule G' r

pub same-sym : (G G' : Cfg) → SameRules G G' → SameRules G' G
same-sym G G' same r = sym (same r)

-- a rule of k in one is a rule of k in the other
unfoldable pub of-same : (G G' : Cfg) → SameRules G G' → (r k : ℕ) → Of G r k → Of G' r k
of-same G G' same r k o = record { the = o.the; here = sym (same r) ∙ o.here; left = o.left }

pub bounded-same : (G G' : Cfg) → SameRules G G' → Bounded G → Bounded G'
bounded-same G G' same low r k o = low r k (of-same G' G (same-sym G G' same) r k o)

-- what one column has, the other has
column-sub : (G G' : Cfg) → SameRules G G' → Bounded G' → (fit : Fit) (chart : List ℕ) (n i k : ℕ) → i ≤ n
    → has k (in_column G fit chart n i) ≡ true → has k (in_column G' fit chart n i) ≡ true
unfolding of-same
column-sub G G' same low fit chart n = column-least G fit chart n (in_column G' fit chart n)
    (λ i r k h o. column-closed G' fit chart n low i r k h (of-same G G' same r k o))

module _ (G G' : Cfg) (same : SameRules G G') (low : Bounded G) where
  pub column-same-rules : (fit : Fit) (chart : List ℕ) (n : ℕ)
      → column G fit chart n (suc n) ≡ column G' fit chart n (suc n)
  column-same-rules fit chart n =
      ext_get_or 0 (column G fit chart n (suc n)) (column G' fit chart n (suc n))
      (column-length G fit chart n (suc n) ∙ sym (column-length G' fit chart n (suc n)))
      (λ i h. set-ext _ _ (column-lt G low fit chart n (suc n) i) (column-lt G' low' fit chart n (suc n) i)
      (λ k _. members i k (omega (arith, column-length G fit chart n (suc n)))))
    where
      low' : Bounded G'
      low' = bounded-same G G' same low

      members : (i k : ℕ) → i ≤ n → has k (in_column G fit chart n i) ≡ has k (in_column G' fit chart n i)
      members i k h = bool-ext _ _ (column-sub G G' same low' fit chart n i k h)
          (column-sub G' G (same-sym G G' same) low fit chart n i k h)

  pub written-same-rules : (fit : Fit) (n : ℕ) (chart : List ℕ) → written G fit n chart ≡ written G' fit n chart
  unfolding written
  written-same-rules fit n chart = ap (put_column chart n 0) (column-same-rules fit chart n)

  pub opened-same-rules : (chart : List ℕ) → opened G chart ≡ opened G' chart
  unfolding opened
  opened-same-rules chart = written-same-rules (fits_at []) 0 (replicate cells 0 ++ drop cells chart)

  pub extended-same-rules : (w chart : List ℕ) → extended G w chart ≡ extended G' w chart
  unfolding extended
  extended-same-rules w chart = written-same-rules (fits_at w) (length w) chart

  pub extended_by-same-rules : (v w chart : List ℕ) → extended_by G v w chart ≡ extended_by G' v w chart
  unfolding extended_by
  extended_by-same-rules v [] chart = refl
  extended_by-same-rules v (m ∷ w) chart =
      let v' = v ++ (m ∷ []) in
      extended_by-same-rules v' w (extended G v' chart) ∙ ap (extended_by G' v' w) (extended-same-rules v' chart)

  pub filled-same-rules : (w chart : List ℕ) → filled G w chart ≡ filled G' w chart
  unfolding filled
  filled-same-rules w chart = extended_by-same-rules [] w (opened G chart) ∙ ap (extended_by G' [] w) (opened-same-rules chart)
