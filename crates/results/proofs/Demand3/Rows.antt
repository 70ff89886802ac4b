-- The tests of rows of numbers: two rows are the same, a row is in a list; and the row after a row of a rising list. Assumes nothing.
use Prim.Native.Nat.{ℕ, zero, suc, ◌<◌}
use native.Mathlib.Nat.{not-suc-le-zero}
use native.Mathlib.Omega.{arith}
use mathlib.Core.Bool.{true, false, false≢true}
use mathlib.Core.List.{List, [], ◌∷◌, Memᴰ}
use mathlib.Core.Logic.{◌↔◌}
use mathlib.Core.Option.{none, some}
use mathlib.Core.Path.{◌≡◌, refl, sym, ap₂, subst, ◌∙◌}
use lib.Dec.{eqb}
use lib.ListN.{length, get_or}
use borrow.Author.Tests.{eqb-true, eq-eqb}
use Rattle.laws.proofs.Bools.{by-test, bool_false, and_parts}
use Rattle.cfg.specs.Derivation.{◌≺◌, Rising}
use Rattle.theory_listing.proofs.Members.{Pairs, pairs-none, pairs-more}
use Rattle.theory_listing.proofs.Order.{≺-different}
use Rattle.theory_listing.proofs.Rising.{rising→pairs}
use Rattle.results.specs.Check.{same, listed}
use Rattle.results.specs.Enumerate.{head_of, after_in}

-- ---- two rows are the same

pub same_true : (x y : List ℕ) → same x y ≡ true → x ≡ y
unfolding same
same_true [] [] e = refl
same_true [] (b ∷ y) e = absurd (false≢true e)
same_true (a ∷ x) [] e = absurd (false≢true e)
same_true (a ∷ x) (b ∷ y) e = let p = and_parts (eqb a b) (same x y) e in ap₂ ◌∷◌ (eqb-true a b p.0) (same_true x y p.1)

pub same-itself : (x : List ℕ) → same x x ≡ true
unfolding same
same-itself [] = refl
same-itself (a ∷ x) = rw (eq-eqb a a refl) (same-itself x)

pub same-exact : (x y : List ℕ) → (same x y ≡ true) ↔ (x ≡ y)
same-exact x y = (same_true x y, λ e. subst (λ (z : List ℕ). same x z ≡ true) e (same-itself x))

pub same_false : (x y : List ℕ) → (x ≡ y → ⊥) → same x y ≡ false
same_false x y n = bool_false (same x y) (λ e. n (same_true x y e))

-- ---- a row is in a list

pub listed-member : (e : List ℕ) (l : List (List ℕ)) → listed e l ≡ true → Memᴰ e l
unfolding listed
listed-member e [] h = absurd (false≢true h)
listed-member e (d ∷ l) h = by-test (same e d)
    (λ p. Memᴰ.head (same_true e d p)) (λ p. Memᴰ.tail (listed-member e l (rw p at h)))

pub member-listed : (e : List ℕ) {l : List (List ℕ)} → Memᴰ e l → listed e l ≡ true
unfolding listed
member-listed e (Memᴰ.head {x = d} p) = rw ((same-exact e d).1 p)
member-listed e (Memᴰ.tail {x = d} i) = by-test (same e d) (λ p. rw p) (λ p. rw p (member-listed e i))

pub not-member-listed : (e : List ℕ) (l : List (List ℕ)) → (Memᴰ e l → ⊥) → listed e l ≡ false
not-member-listed e l n = bool_false (listed e l) (λ h. n (listed-member e l h))

-- ---- the rows of a list by number, from 0

pub at-member : (l : List (List ℕ)) (i : ℕ) → i < length l → Memᴰ (get_or l i []) l
at-member [] i h = absurd (not-suc-le-zero h)
at-member (d ∷ l) zero h = Memᴰ.head refl
at-member (d ∷ l) (suc i) h = Memᴰ.tail (at-member l i (omega arith))

pub head-some : (l : List (List ℕ)) → 0 < length l → head_of l ≡ some (get_or l 0 [])
unfolding head_of
head-some [] h = absurd (not-suc-le-zero h)
head-some (d ∷ l) h = refl

pub head-none : (l : List (List ℕ)) → length l ≡ 0 → head_of l ≡ none
unfolding head_of
head-none [] h = refl
head-none (d ∷ l) h = absurd (omega arith)

pub after-here : (e d : List ℕ) (l : List (List ℕ)) → same e d ≡ true → after_in e (d ∷ l) ≡ head_of l
unfolding after_in
after-here e d l h = rw (h, after_in)

pub after-later : (e d : List ℕ) (l : List (List ℕ)) → same e d ≡ false → after_in e (d ∷ l) ≡ after_in e l
unfolding after_in
after-later e d l h = rw (h, after_in)

-- what comes after row i of a list without repetition
after-at : {l : List (List ℕ)} → Pairs ◌≺◌ l → (i : ℕ) → i < length l
    → (suc i < length l → after_in (get_or l i []) l ≡ some (get_or l (suc i) [])) × (suc i ≡ length l → after_in (get_or l i []) l ≡ none)
after-at pairs-none i h = absurd (not-suc-le-zero h)
after-at (pairs-more {a} {l} k p) zero h =
    let here = after-here a a l (same-itself a) in
    (λ more. here ∙ head-some l (omega arith), λ last. here ∙ head-none l (omega arith))
after-at (pairs-more {a} {l} k p) (suc i) h =
    let rest = after-at p i (omega arith) in
    let apart : same (get_or l i []) a ≡ false =
    same_false (get_or l i []) a (λ e. ≺-different (k (get_or l i []) (at-member l i (omega arith))) (sym e)) in
    let later = after-later (get_or l i []) a l apart in
    (λ more. later ∙ rest.0 (omega arith), λ last. later ∙ rest.1 (omega arith))

pub after_next : (l : List (List ℕ)) → Rising l → (i : ℕ) → suc i < length l → after_in (get_or l i []) l ≡ some (get_or l (suc i) [])
after_next l r i h = (after-at (rising→pairs r) i (omega arith)).0 h

pub after_last : (l : List (List ℕ)) → Rising l → (i : ℕ) → suc i ≡ length l → after_in (get_or l i []) l ≡ none
after_last l r i h = (after-at (rising→pairs r) i (omega arith)).1 h
