-- The common members of two sets, the least member of a set, and a set without one of its members.
-- Laws about the width are proved for every width n. Assumes nothing.
use Prim.Native.Nat.{ℕ, zero, suc, ◌+◌, ◌*◌, ◌-◌, ◌/◌, ◌%◌, ◌^◌, ◌≤◌, ◌<◌}
use mathlib.Core.Bool.{Bool, true, false, ◌&&◌, ◌||◌, not}
use mathlib.Core.Logic.{◌≢◌, dite}
use mathlib.Core.Path.{◌≡◌, refl, sym, ap, ap₂, ◌∙◌}
use native.Mathlib.Nat.{pow-suc}
use native.Mathlib.Decide.{dec_lt}
use native.Mathlib.Omega.{arith}
use lib.Bits.{bit_and, bit_or, bit_xor, differ, and_step, or_step, xor_step, xor_shr, and_lt}
use lib.Count.{under, count_trailing_zeros}
use lib.Dec.{eqb}
use borrow.Author.Tests.{eq-eqb, ne_eqb}
use Rattle.laws.proofs.Bools.{true-false, by-test, and_parts}
use Rattle.sets.specs.Set.{has}
use Rattle.sets.specs.Pairs.{Meeting, LeastMember, FirstMember, Without}
use Rattle.sets.proofs.Halving.{has-zero, has-suc, has-zero-true, has-zero-false, insert-fresh}
use Rattle.sets.proofs.Laws.{has-empty}

-- ---- common members

has-and-zero : (v w : ℕ) → has 0 (bit_and v w) ≡ (has 0 v && has 0 w)
has-and-zero v w = go (has 0 v) (has 0 w) refl refl
  where
    go : (a b : Bool) → has 0 v ≡ a → has 0 w ≡ b → has 0 (bit_and v w) ≡ (a && b)
    go true true e f =
        let d : bit_and v w % 2 ≡ 1 = omega (arith, and_step v w, has-zero-true v e, has-zero-true w f) in
        has-zero (bit_and v w) ∙ eq-eqb (bit_and v w % 2) 1 d
    go true false e f =
        let d : bit_and v w % 2 ≡ 0 = omega (arith, and_step v w, has-zero-false w f) in
        has-zero (bit_and v w) ∙ ap (λ (x : ℕ). eqb x 1) d
    go false b e f =
        let d : bit_and v w % 2 ≡ 0 = omega (arith, and_step v w, has-zero-false v e) in
        has-zero (bit_and v w) ∙ ap (λ (x : ℕ). eqb x 1) d

pub has-and : (k v w : ℕ) → has k (bit_and v w) ≡ (has k v && has k w)
has-and zero v w = has-and-zero v w
has-and (suc k) v w =
    let half : bit_and v w / 2 ≡ bit_and (v / 2) (w / 2) = omega (arith, and_step v w) in
    has-suc k (bit_and v w) ∙ ap (has k) half ∙ has-and k (v / 2) (w / 2) ∙ ap₂ ◌&&◌ (sym (has-suc k v)) (sym (has-suc k w))

-- ---- the union, and what one set lacks of the other

has-or-zero : (v w : ℕ) → has 0 (bit_or v w) ≡ (has 0 v || has 0 w)
has-or-zero v w = go (has 0 v) (has 0 w) refl refl
  where
    go : (a b : Bool) → has 0 v ≡ a → has 0 w ≡ b → has 0 (bit_or v w) ≡ (a || b)
    go true b e f =
        let d : bit_or v w % 2 ≡ 1 = omega (arith, or_step v w, has-zero-true v e) in
        has-zero (bit_or v w) ∙ eq-eqb (bit_or v w % 2) 1 d
    go false true e f =
        let d : bit_or v w % 2 ≡ 1 = omega (arith, or_step v w, has-zero-true w f) in
        has-zero (bit_or v w) ∙ eq-eqb (bit_or v w % 2) 1 d
    go false false e f =
        let d : bit_or v w % 2 ≡ 0 = omega (arith, or_step v w, has-zero-false v e, has-zero-false w f) in
        has-zero (bit_or v w) ∙ ap (λ (x : ℕ). eqb x 1) d

pub has-or : (k v w : ℕ) → has k (bit_or v w) ≡ (has k v || has k w)
has-or zero v w = has-or-zero v w
has-or (suc k) v w =
    let half : bit_or v w / 2 ≡ bit_or (v / 2) (w / 2) = omega (arith, or_step v w) in
    has-suc k (bit_or v w) ∙ ap (has k) half ∙ has-or k (v / 2) (w / 2) ∙ ap₂ ◌||◌ (sym (has-suc k v)) (sym (has-suc k w))

-- one of two, and not both
abbrev either : Bool → Bool → Bool
either true b = not b
either false b = b

has-xor-zero : (v w : ℕ) → has 0 (bit_xor v w) ≡ either (has 0 v) (has 0 w)
has-xor-zero v w = go (has 0 v) (has 0 w) refl refl
  where
    ends : (x y : ℕ) → v % 2 ≡ x → w % 2 ≡ y → bit_xor v w ≡ bit_xor (v / 2) (w / 2) * 2 + differ x y
    ends x y e f = xor_step v w ∙ ap₂ (λ (a b : ℕ). bit_xor (v / 2) (w / 2) * 2 + differ a b) e f

    odd : bit_xor v w ≡ bit_xor (v / 2) (w / 2) * 2 + 1 → has 0 (bit_xor v w) ≡ true
    odd e = let d : bit_xor v w % 2 ≡ 1 = omega (arith, e) in has-zero (bit_xor v w) ∙ eq-eqb (bit_xor v w % 2) 1 d

    even : bit_xor v w ≡ bit_xor (v / 2) (w / 2) * 2 + 0 → has 0 (bit_xor v w) ≡ false
    even e = let d : bit_xor v w % 2 ≡ 0 = omega (arith, e) in has-zero (bit_xor v w) ∙ ap (λ (x : ℕ). eqb x 1) d

    go : (a b : Bool) → has 0 v ≡ a → has 0 w ≡ b → has 0 (bit_xor v w) ≡ either a b
    go true true e f = even (ends 1 1 (has-zero-true v e) (has-zero-true w f))
    go true false e f = odd (ends 1 0 (has-zero-true v e) (has-zero-false w f))
    go false true e f = odd (ends 0 1 (has-zero-false v e) (has-zero-true w f))
    go false false e f = even (ends 0 0 (has-zero-false v e) (has-zero-false w f))

has-xor : (k v w : ℕ) → has k (bit_xor v w) ≡ either (has k v) (has k w)
has-xor zero v w = has-xor-zero v w
has-xor (suc k) v w =
    let half : bit_xor v w / 2 ≡ bit_xor (v / 2) (w / 2) = xor_shr v w 1 in
    has-suc k (bit_xor v w) ∙ ap (has k) half ∙ has-xor k (v / 2) (w / 2) ∙ ap₂ either (sym (has-suc k v)) (sym (has-suc k w))

-- what is left of v without what it has in common with w
pub has-less : (k v w : ℕ) → has k (bit_xor v (bit_and v w)) ≡ (has k v && not (has k w))
has-less k v w = has-xor k v (bit_and v w) ∙ ap (either (has k v)) (has-and k v w) ∙ go (has k v) (has k w)
  where
    go : (a b : Bool) → either a (a && b) ≡ (a && not b)
    go true b = refl
    go false b = refl

-- a set that is not empty has a member
pub member : (n w : ℕ) → w < 2 ^ n → w ≢ 0 → (k : ℕ) × (k < n) × (has k w ≡ true)
member zero w l d = absurd (omega arith)
member (suc n) w l d = by-test (has 0 w) (λ e. (0, omega arith, e)) (λ e.
    let f : w / 2 ≢ 0 = λ z. d (omega (arith, has-zero-false w e)) in
    let (k, h, m) = member n (w / 2) (omega (arith, pow-suc 2 n)) f in
    (suc k, omega arith, has-suc k w ∙ m))

both-in : (k v w : ℕ) → has k v ≡ true → has k w ≡ true → has k (bit_and v w) ≡ true
both-in k v w g h = has-and k v w ∙ rw (g, h)

-- two sets of n bits meet exactly if their common part is not 0
pub meeting : (n v w : ℕ) (f : Bool) → v < 2 ^ n → w < 2 ^ n → f ≡ not (eqb (bit_and v w) 0) → Meeting n v w f
meeting n v w f p q e = record { found = found; all = all }
  where
    found : f ≡ true → (k : ℕ) × (k < n) × (has k v ≡ true) × (has k w ≡ true)
    found g =
        let d : bit_and v w ≢ 0 = λ z. true-false g (e ∙ ap not (eq-eqb (bit_and v w) 0 z)) in
        let (k, h, m) = member n (bit_and v w) (and_lt n v w p q) d in
        let u = and_parts (has k v) (has k w) (sym (has-and k v w) ∙ m) in
        (k, h, u.0, u.1)

    all : (k : ℕ) → has k v ≡ true → has k w ≡ true → f ≡ true
    all k g h = e ∙ ap not (ne_eqb (bit_and v w) 0 (λ z. true-false (both-in k v w g h) (ap (has k) z ∙ has-empty k)))

-- ---- the least member, and a set without a member

-- the least member is the number of zero bits below it
pub first-is : (n w k : ℕ) → w < 2 ^ n → k ≡ count_trailing_zeros n w → FirstMember n w k
unfolding count_trailing_zeros
first-is zero w k l e = record { within = omega arith; member = λ m. absurd (omega arith); before = λ j m. absurd (omega arith) }
first-is (suc n) w k l e = go (first-is n (w / 2) (count_trailing_zeros n (w / 2)) (omega (arith, pow-suc 2 n)) refl) (has 0 w) refl
  where
    go : FirstMember n (w / 2) (count_trailing_zeros n (w / 2)) → (b : Bool) → has 0 w ≡ b → FirstMember (suc n) w k
    go half true h =
        let z : k ≡ 0 = e ∙ ap (λ (x : ℕ). under x (count_trailing_zeros n (w / 2))) (has-zero-true w h) in
        record { within = omega arith; member = λ m. ap (λ (x : ℕ). has x w) z ∙ h; before = λ j m. absurd (omega arith) }
    go half false h =
        let s : k ≡ suc (count_trailing_zeros n (w / 2)) = e ∙ ap (λ (x : ℕ). under x (count_trailing_zeros n (w / 2))) (has-zero-false w h) in
        record {
          within = omega (arith, half.within);
          member = λ m. ap (λ (x : ℕ). has x w) s ∙ has-suc (count_trailing_zeros n (w / 2)) w ∙ half.member (omega arith);
          before = λ j m. none-under (count_trailing_zeros n (w / 2)) half.before j (omega arith);
        }
      where
        none-under : (t : ℕ) → ((j : ℕ) → j < t → has j (w / 2) ≡ false) → (j : ℕ) → j < suc t → has j w ≡ false
        none-under t g zero m = h
        none-under t g (suc j) m = has-suc j w ∙ g j (omega arith)

-- a set that is not empty has a least member
pub lowest-is : (n w k : ℕ) → w < 2 ^ n → w ≢ 0 → k ≡ count_trailing_zeros n w → LeastMember n w k
lowest-is n w k l d e = let F = first-is n w k l e in dite (dec_lt k n)
    (λ m. record { below = m; member = F.member m; least = F.before })
    (λ m. let (j, h, f) = member n w l d in absurd (true-false f (F.before j (omega arith))))

-- a member's power of two can be subtracted, and after that it is no member
pub taken-away : (k w : ℕ) → has k w ≡ true → (2 ^ k ≤ w) × (has k (w - 2 ^ k) ≡ false)
taken-away zero w e =
    let d : (w - 1) % 2 ≡ 0 = omega (arith, has-zero-true w e) in
    (omega (arith, has-zero-true w e), has-zero (w - 1) ∙ ap (λ (x : ℕ). eqb x 1) d)
taken-away (suc k) w e =
    let u = taken-away k (w / 2) (sym (has-suc k w) ∙ e) in
    let l : 2 ^ k ≤ w / 2 = u.0 in
    let half : (w - 2 ^ suc k) / 2 ≡ w / 2 - 2 ^ k = omega (arith, pow-suc 2 k) in
    (omega (arith, pow-suc 2 k), has-suc k (w - 2 ^ suc k) ∙ ap (has k) half ∙ u.1)

pub without_is : (k w v : ℕ) → has k w ≡ true → v ≡ w - 2 ^ k → Without k w v
without_is k w v e f =
    let u = taken-away k w e in
    let l : 2 ^ k ≤ w = u.0 in
    let g : has k v ≡ false = ap (has k) f ∙ u.1 in
    record { gone = g; whole = insert-fresh k v g ∙ omega arith }
