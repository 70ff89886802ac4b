-- The laws of the fit test: a byte fits itself and nothing else, a range exactly what is from its low to its high end. Assumes nothing.
use Prim.Native.Nat.{ℕ, ◌≤◌}
use mathlib.Core.Bool.{true}
use mathlib.Core.Logic.{◌↔◌}
use mathlib.Core.Path.{◌≡◌, refl}
use lib.Dec.{leb}
use borrow.Author.Tests.{eqb-true, eq-eqb, leb-true, le-leb}
use Rattle.laws.proofs.Bools.{and_parts, and_both}
use Rattle.cfg.specs.Grammar.{byte, range, fits}

pub fits-same : (a : ℕ) → fits (byte a) a ≡ true
unfolding fits
fits-same a = eq-eqb a a refl

pub fits-only : (a m : ℕ) → fits (byte a) m ≡ true → a ≡ m
unfolding fits
fits-only a m e = eqb-true a m e

-- both ends fit, what is between them fits, and no other
pub range-fits : (low high m : ℕ) → (fits (range low high) m ≡ true) ↔ ((low ≤ m) × (m ≤ high))
unfolding fits
range-fits low high m = (
  λ e. let p = and_parts (leb low m) (leb m high) e in (leb-true low m p.0, leb-true m high p.1),
  λ h. and_both (leb low m) (leb m high) (le-leb low m h.0) (le-leb m high h.1),
)
