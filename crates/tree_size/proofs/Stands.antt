-- A code in a buffer, taken apart. Assumes nothing.
use Prim.Native.Nat.{ℕ, ◌+◌, ◌*◌}
use mathlib.Core.List.{List, [], ◌∷◌, ◌++◌}
use mathlib.Core.Path.{◌≡◌, ap, ◌∙◌}
use native.Mathlib.Omega.{arith}
use lib.ListN.{length, get_or, length-append, get_or-append}
use lib.Seq.{get_or-append-add}
use Rattle.tree_size.specs.Standing.{StandsAt}

module _ (buf : List ℕ) (at : ℕ) where
  pub stands-rule : (c r : ℕ) (e : List ℕ) → StandsAt buf at (c ∷ r ∷ e) → get_or buf (2 * at + 1) 0 ≡ r
  stands-rule c r e s = s 1 (omega arith)

  -- the first of two lists of numbers, and the second after it
  pub stands-first : (e f : List ℕ) → StandsAt buf at (e ++ f) → StandsAt buf at e
  stands-first e f s y h = s y (omega (arith, length-append e f)) ∙ get_or-append e f 0 y h

  pub stands-second : (e f : List ℕ) (n : ℕ) → length e ≡ 2 * n → StandsAt buf at (e ++ f) → StandsAt buf (at + n) f
  stands-second e f n l s y h =
      let d : 2 * (at + n) + y ≡ 2 * at + (length e + y) = omega arith in
      ap (λ (x : ℕ). get_or buf x 0) d ∙ s (length e + y) (omega (arith, length-append e f)) ∙ get_or-append-add e f y 0

  pub stands-behind : (c r : ℕ) (e : List ℕ) → StandsAt buf at (c ∷ r ∷ e) → StandsAt buf (at + 1) e
  stands-behind c r e s = stands-second (c ∷ r ∷ []) e 1 (omega arith) s
