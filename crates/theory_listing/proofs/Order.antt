-- The order of rows of numbers is irreflexive and transitive. It stays if the same numbers come before both rows, or any numbers after
-- them, and no row is before or after its own beginning. Assumes nothing.
use Prim.Native.Nat.{ℕ}
use mathlib.Core.List.{List, [], ◌∷◌, ◌++◌, append-nil, head-eq_of_cons-eq, tail-eq_of_cons-eq}
use mathlib.Core.Path.{◌≡◌, refl, sym, ◌∙◌}
use native.Mathlib.Nat.{lt_trans, ne_of_lt}
use Rattle.cfg.specs.Derivation.{◌≺◌, first_less, first_same}

pub ≺-transitive : {x y z : List ℕ} → x ≺ y → y ≺ z → x ≺ z
≺-transitive (first_less h) (first_less k) = first_less (lt_trans h k)
≺-transitive (first_less h) (first_same k) = first_less h
≺-transitive (first_same h) (first_less k) = first_less k
≺-transitive (first_same h) (first_same k) = first_same (≺-transitive h k)

-- neither row is the beginning of the other: whatever follows them, they differ
pub ≺-apart : {x y : List ℕ} → x ≺ y → (u v : List ℕ) → x ++ u ≡ y ++ v → ⊥
≺-apart (first_less h) u v e = ne_of_lt h (head-eq_of_cons-eq e)
≺-apart (first_same h) u v e = ≺-apart h u v (tail-eq_of_cons-eq e)

pub ≺-different : {x y : List ℕ} → x ≺ y → x ≡ y → ⊥
≺-different {x} {y} h e = ≺-apart h [] [] (append-nil x ∙ e ∙ sym (append-nil y))

pub ≺-irreflexive : (x : List ℕ) → x ≺ x → ⊥
≺-irreflexive x h = ≺-different h refl

pub ≺-asymmetric : {x y : List ℕ} → x ≺ y → y ≺ x → ⊥
≺-asymmetric {x} h k = ≺-irreflexive x (≺-transitive h k)

pub ≺-append : {x y : List ℕ} → x ≺ y → (u v : List ℕ) → x ++ u ≺ y ++ v
≺-append (first_less h) u v = first_less h
≺-append (first_same h) u v = first_same (≺-append h u v)

-- the same numbers before both rows
pub ≺-after : (p : List ℕ) {x y : List ℕ} → x ≺ y → p ++ x ≺ p ++ y
≺-after [] h = h
≺-after (a ∷ p) h = first_same (≺-after p h)
