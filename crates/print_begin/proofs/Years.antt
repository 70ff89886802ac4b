-- The year of a file, by its length. Assumes nothing.
use Prim.Native.Nat.{ℕ, ◌+◌, ◌*◌}
use native.Mathlib.Omega.{arith}
use mathlib.Core.List.{List, [], ◌∷◌}
use mathlib.Core.Path.{◌≡◌, refl}
use lib.ListN.{length, get_or}
use mir.Syntax.{w16}
use Rattle.std.specs.Int.{from_le_bytes}
use Rattle.text.specs.Text.{year_in}

le-two : (low high : ℕ) → from_le_bytes w16 (low ∷ high ∷ []) ≡ low + 256 * high
le-two low high = omega arith

pub year-two : (file : List ℕ) → length file ≡ 2 → from_le_bytes w16 (get_or file 0 0 ∷ get_or file 1 0 ∷ []) ≡ year_in file
unfolding year_in
year-two [] h = absurd (omega arith)
year-two (low ∷ []) h = absurd (omega arith)
year-two (low ∷ high ∷ []) h = le-two low high
year-two (low ∷ high ∷ other ∷ rest) h = absurd (omega arith)

pub year-none : (file : List ℕ) → (length file ≡ 2 → ⊥) → 0 ≡ year_in file
unfolding year_in
year-none [] h = refl
year-none (low ∷ []) h = refl
year-none (low ∷ high ∷ []) h = absurd (h refl)
year-none (low ∷ high ∷ other ∷ rest) h = refl
