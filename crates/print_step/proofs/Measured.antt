-- The length of the derivation at the front of the buffer, and its line. Assumes nothing.
use Prim.Native.Nat.{ℕ, ◌≤◌, ◌<◌}
use mathlib.Core.List.{List}
use mathlib.Core.Path.{◌≡◌, sym, ap, subst, ◌∙◌}
use native.Mathlib.Omega.{arith}
use lib.IntN.{ℤ}
use lib.Signed.{mag}
use mir.Syntax.{w32}
use Rattle.numbers.proofs.Signs.{kept, through}
use Rattle.print_number.specs.Put.{Put}
use Rattle.print_line.proofs.Bounds.{tenths-size}
use Rattle.results.specs.Measure.{sum, rounded, tenths_of}
use Rattle.text.specs.Line.{line}

-- 32 bits keep a small number
pub kept_small : (z : ℤ) (n : ℕ) → n ≤ 16777216 → mag z ≤ n → mag (kept w32 z) ≤ n
kept_small z n k h = subst (λ (x : ℤ). mag x ≤ n) (sym (through z (omega arith))) h

module _ (lengths : ℕ → ℤ) (e : List ℕ) (t u : ℤ) (total : (t ≡ sum lengths e) × (mag t ≤ 16777216))
    (tenths : u ≡ rounded (kept w32 t)) where
  pub tenths-small : mag (kept w32 u) ≤ 1677722
  tenths-small =
      kept_small u 1677722 (omega arith)
      (subst (λ (x : ℤ). mag x ≤ 1677722) (sym tenths) (tenths-size (kept w32 t) (kept_small t 16777216 (omega arith) total.1)))

  pub line-put : (place r : ℕ) (out₀ out : List ℕ) → Put (line place e (kept w32 u)) 0 r out₀ out
      → Put (line place e (tenths_of lengths e)) 0 r out₀ out
  line-put place r out₀ out P =
      let small : mag u < 2147483648 =
      omega (
        arith,
        subst (λ (x : ℤ). mag x ≤ 1677722) (sym tenths)
            (tenths-size (kept w32 t) (kept_small t 16777216 (omega arith) total.1)),
      ) in
      let same : kept w32 t ≡ sum lengths e = through t (omega (arith, total.1)) ∙ total.0 in
      subst (λ (z : ℤ). Put (line place e z) 0 r out₀ out) (through u small ∙ tenths ∙ ap rounded same) P
