-- Codes of forests for the same places over the same bytes: if the forests differ, one code is before the other, so none is the beginning
-- of another. Codes of a first part and a rest are ordered by the first parts, and by the rests if these are the same. Assumes nothing.
use Prim.Native.Nat.{ℕ}
use mathlib.Core.List.{List, [], ◌∷◌, ◌++◌, append-nil}
use mathlib.Core.Logic.{◌⊎◌, inl, inr}
use mathlib.Core.Path.{◌≡◌, refl, sym, ap, ◌∙◌}
use native.Mathlib.Nat.{lt_irrefl}
use Rattle.cfg.specs.Grammar.{Cfg, Symbol}
use Rattle.cfg.specs.Tree.{Forest, yield, code, Fits}
use Rattle.cfg.specs.Derivation.{◌≺◌, first_less, first_same}
use Rattle.theory_listing.proofs.Order.{≺-asymmetric, ≺-append}
use Rattle.theory_listing.proofs.Unique.{row-unique}
use Rattle.theory_enumeration.proofs.Layered.{Numbers, below, equal, above, numbers}

-- ---- lists

-- two lists are in order, or one is a beginning of the other
pub data Compared (x y : List ℕ) : Type 0 where
  before : x ≺ y → Compared x y
  behind : y ≺ x → Compared x y
  shorter : (z : List ℕ) → x ++ z ≡ y → Compared x y
  longer : (z : List ℕ) → y ++ z ≡ x → Compared x y

compared-cons : (a : ℕ) {x y : List ℕ} → Compared x y → Compared (a ∷ x) (a ∷ y)
compared-cons a (before h) = before (first_same h)
compared-cons a (behind h) = behind (first_same h)
compared-cons a (shorter z e) = shorter z (ap (λ (l : List ℕ). a ∷ l) e)
compared-cons a (longer z e) = longer z (ap (λ (l : List ℕ). a ∷ l) e)

pub compared : (x y : List ℕ) → Compared x y
compared [] y = shorter y refl
compared (a ∷ x) [] = longer (a ∷ x) refl
compared (a ∷ x) (b ∷ y) = go (numbers a b) (compared x y)
  where
    go : Numbers a b → Compared x y → Compared (a ∷ x) (b ∷ y)
    go (below h) c = before (first_less h)
    go (equal e) c = rw e (compared-cons b c)
    go (above h) c = behind (first_less h)

-- two lists in order whose first numbers are the same
≺-tail : {a b : ℕ} {x y : List ℕ} → (a ∷ x) ≺ (b ∷ y) → a ≡ b → x ≺ y
≺-tail {b = b} (first_less h) e = absurd (lt_irrefl b (rw e at h))
≺-tail (first_same h) e = h

-- the order does not depend on what both begin with
pub ≺-cancel : (p : List ℕ) {x y : List ℕ} → p ++ x ≺ p ++ y → x ≺ y
≺-cancel [] h = h
≺-cancel (a ∷ p) h = ≺-cancel p (≺-tail h refl)

-- ---- forests

-- two forests are the same, or the code of one is before that of the other
pub data Ordered (t u : Forest) : Type 0 where
  same : t ≡ u → Ordered t u
  less : code t ≺ code u → Ordered t u
  greater : code u ≺ code t → Ordered t u

pub forests-compared : (G : Cfg) {places : List Symbol} {t u : Forest} → Fits G places t → Fits G places u → yield t ≡ yield u → Ordered t u
forests-compared G {t = t} {u} f g e = go (compared (code t) (code u))
  where
    bytes : yield t ++ [] ≡ yield u ++ []
    bytes = ap (λ (l : List ℕ). l ++ []) e

    go : Compared (code t) (code u) → Ordered t u
    go (before h) = less h
    go (behind h) = greater h
    go (shorter z h) = same (row-unique G z [] [] [] f g bytes (h ∙ sym (append-nil (code u)))).0
    go (longer z h) = same (row-unique G [] z [] [] f g bytes (append-nil (code t) ∙ sym h)).0

-- ---- a first part and a rest

-- two codes in order: the first parts are in order, or they are the same and the rests are in order
pub joined-cases : {t u : Forest} {p q : List ℕ} (x y : List ℕ) → code t ≡ p → code u ≡ q → Ordered t u → p ++ x ≺ q ++ y
    → (p ≺ q) ⊎ ((t ≡ u) × (x ≺ y))
joined-cases {p} {q} x y a b (less h) k = inl (rw (← a, ← b) h)
joined-cases {p} x y a b (same e) k = inr (e, ≺-cancel p (rw (sym b ∙ ap code (sym e) ∙ a) at k))
joined-cases {p} {q} x y a b (greater h) k =
    let l : q ≺ p = rw (← a, ← b) h in
    absurd (≺-asymmetric k (≺-append l y x))
