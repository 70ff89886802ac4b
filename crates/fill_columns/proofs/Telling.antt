-- The ends of the columns: there are none at first, and writing a column changes nothing in those before it. Assumes nothing.
use Prim.Native.Nat.{ℕ, ◌+◌, ◌*◌, ◌≤◌}
use mathlib.Core.List.{List}
use mathlib.Core.Logic.{inl, inr}
use mathlib.Core.Path.{◌≡◌, sym, ap, ◌∙◌}
use native.Mathlib.Omega.{arith}
use lib.ListN.{replicate}
use Rattle.sizes.specs.Sizes.{max_input}
use Rattle.sets.specs.Set.{has}
use Rattle.chart.specs.Cell.{Fit, cell}
use Rattle.chart.proofs.Written.{written-cell-other}
use Rattle.packed.specs.Packed.{cfg_in}
use Rattle.fill_words.specs.Spans.{ends_size}
use Rattle.fill_words.specs.Ends.{ToldTo, EndsTo}
use Rattle.fill_columns.specs.Columns.{column_by}
use Rattle.fill_columns.proofs.Writing.{zero_has}

ends_none : (chart : List ℕ) (k l : ℕ) → EndsTo chart 0 0 (replicate k 0) (replicate l 0)
ends_none chart k l = record {
  sound = λ a j c _ _ x. absurd (zero_has k (32 * a + j) c x);
  all = λ a j c _ told x. absurd (nothing a c told);
  high = λ a j c _ told. absurd (nothing a c told);
  reaches = λ a j c told x. absurd (nothing a c told);
}
  where
    nothing : (a c : ℕ) → ToldTo 0 0 a c → ⊥
    nothing a c (l, inl h) = omega arith
    nothing a c (l, inr h) = omega (arith, h.1)

pub ends-zero : (chart : List ℕ) → EndsTo chart 0 0 (replicate ends_size 0) (replicate max_input 0)
ends-zero chart = ends_none chart ends_size max_input

-- writing a column changes nothing in the columns before it
pub told-on : (p : List ℕ) (fit : Fit) (chart chart' : List ℕ) (n : ℕ) (ends reach : List ℕ) → n ≤ max_input
    → chart' ≡ column_by p fit n chart
    → EndsTo chart n 0 ends reach → EndsTo chart' n 0 ends reach
told-on p fit chart chart' n ends reach small e to = record {
  sound = λ a k c h l x. let u = to.sound a k c h l x in (u.0, ap (has k) (same a c u.0) ∙ u.1);
  all = λ a k c h told x. to.all a k c h told (ap (has k) (sym (same a c told)) ∙ x);
  high = λ a k c h told. ap (has k) (same a c told) ∙ to.high a k c h told;
  reaches = λ a k c told x. to.reaches a k c told (ap (has k) (sym (same a c told)) ∙ x);
}
  where
    same : (a c : ℕ) → ToldTo n 0 a c → cell chart' a c ≡ cell chart a c
    same a c (l, inl h) = ap (λ (x : List ℕ). cell x a c) e
        ∙ written-cell-other (cfg_in 0 p) fit n chart small a c (omega arith) (λ d. absurd (omega arith))
    same a c (l, inr h) = absurd (omega (arith, h.1))
