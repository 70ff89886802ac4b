-- A filled chart, cleared after the first bytes, is the chart of these bytes alone. Assumes nothing.
use Prim.Native.Nat.{ℕ, ◌+◌, ◌-◌, ◌/◌, ◌%◌, ◌≤◌}
use mathlib.Core.List.{List, ◌++◌}
use mathlib.Core.Logic.{dite, inr}
use mathlib.Core.Path.{◌≡◌, sym, ap, ◌∙◌}
use native.Mathlib.Decide.{dec_lt}
use native.Mathlib.Omega.{arith}
use lib.ListN.{length, get_or, take, drop, length-drop, take-append-drop}
use lib.Seq.{get_or-drop, ext_get_or, length-take-le}
use Rattle.sizes.specs.Sizes.{cells, max_input, side}
use Rattle.cfg.specs.Grammar.{Cfg}
use Rattle.chart.specs.Cell.{cell, index}
use Rattle.chart.specs.Column.{extended_by, filled}
use Rattle.chart.proofs.Filled.{extended_by-length, extended_by-behind, extended_by-other, filled-append}
use Rattle.chart.proofs.Truth.{filled-length, filled_zero}
use Rattle.theory_clearing.specs.Clearing.{cleared}
use Rattle.theory_clearing.proofs.Cells.{cleared-length, cleared-behind, cleared-zero, cleared-other}

-- charts with the same cells, and the same numbers after them, are equal
pub chart-ext : (x y : List ℕ) → length x ≡ length y → drop cells x ≡ drop cells y
    → ((i j : ℕ) → i ≤ max_input → j ≤ max_input → cell x i j ≡ cell y i j) → x ≡ y
chart-ext x y e behind same = ext_get_or 0 x y e (λ q _. dite (dec_lt q cells)
    (λ h. let s : index (q / side) (q % side) ≡ q = omega arith in
    ap (λ (p : ℕ). get_or x p 0) (sym s)
    ∙ same (q / side) (q % side) (omega arith) (omega arith)
    ∙ ap (λ (p : ℕ). get_or y p 0) s)
    (λ h. let s : cells + (q - cells) ≡ q = omega arith in
    ap (λ (p : ℕ). get_or x p 0) (sym s)
    ∙ sym (get_or-drop cells x (q - cells) 0)
    ∙ ap (λ (z : List ℕ). get_or z (q - cells) 0) behind
    ∙ get_or-drop cells y (q - cells) 0
    ∙ ap (λ (p : ℕ). get_or y p 0) s))

module _ (G : Cfg) where
  -- clearing undoes the bytes taken after v
  pub cleared-filled : (v u found : List ℕ) → length v + length u ≤ max_input → cells ≤ length found
      → cleared (length v) (filled G (v ++ u) found) ≡ filled G v found
  cleared-filled v u found h c =
      ap (cleared (length v)) (filled-append G v u found) ∙ chart-ext (cleared (length v) after) before
      (cleared-length (length v) after ∙ extended_by-length G v u before)
      (cleared-behind (length v) after (omega arith) ∙ extended_by-behind G v u before h)
      cells_same
    where
      before : List ℕ
      before = filled G v found

      after : List ℕ
      after = extended_by G v u before

      room : cells ≤ length after
      room = omega (arith, extended_by-length G v u before, filled-length G v found c)

      cells_same : (i j : ℕ) → i ≤ max_input → j ≤ max_input → cell (cleared (length v) after) i j ≡ cell before i j
      cells_same i j a b = dite (dec_lt (length v) j)
          (λ m. dite (dec_lt j i)
          (λ l. cleared-other (length v) after (omega arith) i j b (λ _. l)
          ∙ extended_by-other G v u before i j h b (λ n _ _ e. omega arith))
          (λ l. cleared-zero (length v) after room i j m b (omega arith)
          ∙ sym (filled_zero G v found (omega arith) i j a b (inr m))))
          (λ m. cleared-other (length v) after (omega arith) i j b (λ o. absurd (omega arith))
          ∙ extended_by-other G v u before i j h b (λ n o _ e. absurd (omega arith)))

  -- the same for an input, and how many of its bytes remain
  pub cleared-take : (p : ℕ) (w found : List ℕ) → p ≤ length w → length w ≤ max_input → cells ≤ length found
      → cleared p (filled G w found) ≡ filled G (take p w) found
  cleared-take p w found h l c =
      let n : length (take p w) ≡ p = length-take-le p w h in
      ap (λ (m : ℕ). cleared m (filled G w found)) (sym n)
      ∙ ap (λ (x : List ℕ). cleared (length (take p w)) (filled G x found)) (sym (take-append-drop p w))
      ∙ cleared-filled (take p w) (drop p w) found (omega (arith, length-drop p w)) c
