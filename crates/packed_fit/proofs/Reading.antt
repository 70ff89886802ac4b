-- What a fit table says. Assumes nothing.
use Prim.Native.Nat.{ℕ, ◌≤◌}
use mathlib.Core.List.{List}
use mathlib.Core.Path.{ap, ◌∙◌}
use native.Mathlib.Omega.{arith}
use Rattle.sizes.specs.Sizes.{max_input}
use Rattle.cfg.specs.Grammar.{Symbol}
use Rattle.chart.specs.Cell.{fits_at}
use Rattle.packed.specs.Packed.{fits_place}
use Rattle.packed.proofs.Fitting.{symbol-terminal}
use Rattle.packed_fit.specs.Fit.{fit_in, Told, FitTold}

-- the fit table of an input says what fits its bytes
pub fit-told : (p w t : List ℕ) (n : ℕ) → n ≤ max_input → Told p w t → FitTold (fits_at w) p t n
unfolding fit_in fits_place
fit-told p w t n h told i r q l m c e =
    told.exact i r q (omega arith) m c ∙ ap (λ (s : Symbol). fits_place w s i) (symbol-terminal p r q e)
