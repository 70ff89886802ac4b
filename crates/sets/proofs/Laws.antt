-- The laws of membership and insertion: what an insertion changes and keeps, that it never gives a smaller number, and that a set is its
-- members. Laws about the width are proved for every width n, and stated for 32. Assumes nothing.
use Prim.Native.Nat.{ℕ, zero, suc, ◌/◌, ◌%◌, ◌^◌, ◌≤◌, ◌<◌}
use mathlib.Core.Bool.{true, false, true≢false}
use mathlib.Core.Logic.{◌≢◌}
use mathlib.Core.Path.{◌≡◌, refl, sym, ap, ◌∙◌}
use native.Mathlib.Nat.{pow-suc, div-eq_of_lt, lt_of_lt_of_le}
use native.Mathlib.Omega.{arith}
use lib.Dec.{eqb}
use lib.Pow.{pow_pos, pow_mono}
use borrow.Author.Tests.{eq-eqb}
use Rattle.laws.proofs.Bools.{by-test}
use Rattle.sets.specs.Set.{has, insert}
use Rattle.sets.proofs.Halving.{has-zero, has-suc, has-zero-true, has-zero-false, insert-zero, insert-suc, insert-fresh}
pub use Rattle.sets.proofs.Halving.{insert-old}

-- ---- membership

pub has-empty : (k : ℕ) → has k 0 ≡ false
has-empty zero = has-zero 0
has-empty (suc k) = has-suc k 0 ∙ has-empty k

pub has-insert-same : (k w : ℕ) → has k (insert k w) ≡ true
has-insert-same zero w =
    let e : insert 0 w % 2 ≡ 1 = omega (arith, insert-zero w) in
    has-zero (insert 0 w) ∙ eq-eqb (insert 0 w % 2) 1 e
has-insert-same (suc k) w =
    let e : insert (suc k) w / 2 ≡ insert k (w / 2) = omega (arith, insert-suc k w) in
    has-suc k (insert (suc k) w) ∙ ap (has k) e ∙ has-insert-same k (w / 2)

pub has-insert-other : (j k w : ℕ) → j ≢ k → has j (insert k w) ≡ has j w
has-insert-other zero zero w d = absurd (d refl)
has-insert-other zero (suc k) w d =
    let e : insert (suc k) w % 2 ≡ w % 2 = omega (arith, insert-suc k w) in
    has-zero (insert (suc k) w) ∙ ap (λ (x : ℕ). eqb x 1) e ∙ sym (has-zero w)
has-insert-other (suc j) zero w d =
    let e : insert 0 w / 2 ≡ w / 2 = omega (arith, insert-zero w) in
    has-suc j (insert 0 w) ∙ ap (has j) e ∙ sym (has-suc j w)
has-insert-other (suc j) (suc k) w d =
    let e : insert (suc k) w / 2 ≡ insert k (w / 2) = omega (arith, insert-suc k w) in
    has-suc j (insert (suc k) w) ∙ ap (has j) e ∙ has-insert-other j k (w / 2) (λ p. d (ap suc p)) ∙ sym (has-suc j w)

-- ---- the number that an insertion gives

pub insert-new : (k w : ℕ) → has k w ≡ false → w < insert k w
insert-new k w e = omega (arith, insert-fresh k w e, pow_pos k)

pub insert-le : (k w : ℕ) → w ≤ insert k w
insert-le k w = by-test (has k w) (λ e. omega (arith, insert-old k w e)) (λ e. omega (arith, insert-new k w e))

pub insert-same→has : (k w : ℕ) → insert k w ≡ w → has k w ≡ true
insert-same→has k w same = by-test (has k w) (λ e. e) (λ e. absurd (omega (arith, insert-new k w e)))

-- a member stays a member
pub has-insert : (j k w : ℕ) → has j w ≡ true → has j (insert k w) ≡ true
has-insert j k w e = by-test (has k w)
    (λ h. ap (has j) (insert-old k w h) ∙ e)
    (λ h. has-insert-other j k w (λ p. true≢false (sym e ∙ ap (λ (x : ℕ). has x w) p ∙ h)) ∙ e)

-- ---- sets of n bits

-- without its lowest bit a set has one bit less
half-below : (n w : ℕ) → w < 2 ^ suc n → w / 2 < 2 ^ n
half-below n w l = omega (arith, pow-suc 2 n)

pub insert-below : (n k w : ℕ) → k < n → w < 2 ^ n → insert k w < 2 ^ n
insert-below zero k w h l = omega arith
insert-below (suc n) zero w h l = omega (arith, insert-zero w, half-below n w l, pow-suc 2 n)
insert-below (suc n) (suc k) w h l =
    omega (arith, insert-suc k w, insert-below n k (w / 2) (omega arith) (half-below n w l), pow-suc 2 n)

pub has_above : (n k w : ℕ) → w < 2 ^ n → n ≤ k → has k w ≡ false
unfolding has
has_above n k w l h = ap (λ (x : ℕ). eqb (x % 2) 1) (div-eq_of_lt (lt_of_lt_of_le l (pow_mono h)))

-- the lowest bits are equal if 0 is in both sets or in neither
low-eq : (v w : ℕ) → has 0 v ≡ has 0 w → v % 2 ≡ w % 2
low-eq v w e = by-test (has 0 w)
    (λ h. has-zero-true v (e ∙ h) ∙ sym (has-zero-true w h))
    (λ h. has-zero-false v (e ∙ h) ∙ sym (has-zero-false w h))

pub ext-below : (n v w : ℕ) → v < 2 ^ n → w < 2 ^ n → ((k : ℕ) → k < n → has k v ≡ has k w) → v ≡ w
ext-below zero v w p q f = omega arith
ext-below (suc n) v w p q f =
    let g : (k : ℕ) → k < n → has k (v / 2) ≡ has k (w / 2) = λ k h. sym (has-suc k v) ∙ f (suc k) (omega arith) ∙ has-suc k w in
    let e : v / 2 ≡ w / 2 = ext-below n (v / 2) (w / 2) (half-below n v p) (half-below n w q) g in
    omega (arith, low-eq v w (f 0 (omega arith)))

-- ---- sets of 32 bits

pub insert-lt : (k w : ℕ) → k < 32 → w < 2 ^ 32 → insert k w < 2 ^ 32
insert-lt k w h l = insert-below 32 k w h l

pub has-high : (k w : ℕ) → w < 2 ^ 32 → 32 ≤ k → has k w ≡ false
has-high k w l h = has_above 32 k w l h

pub set-ext : (v w : ℕ) → v < 2 ^ 32 → w < 2 ^ 32 → ((k : ℕ) → k < 32 → has k v ≡ has k w) → v ≡ w
set-ext v w p q f = ext-below 32 v w p q f

-- a set with all members of another, and not the same, has one more
fresh-below : (n v w : ℕ) → v < 2 ^ n → w < 2 ^ n → ((k : ℕ) → has k v ≡ true → has k w ≡ true) → v ≢ w
    → (k : ℕ) × (has k v ≡ false) × (has k w ≡ true)
fresh-below zero v w p q sub d = absurd (d (omega arith))
fresh-below (suc n) v w p q sub d =
    let above : has 0 v ≡ has 0 w → (k : ℕ) × (has k v ≡ false) × (has k w ≡ true) = λ e.
    let (k, a, b) = fresh-below n (v / 2) (w / 2) (half-below n v p) (half-below n w q)
    (λ k m. sym (has-suc k w) ∙ sub (suc k) (has-suc k v ∙ m)) (λ g. d (omega (arith, low-eq v w e))) in
    (suc k, has-suc k v ∙ a, has-suc k w ∙ b) in
    by-test (has 0 v) (λ e. above (e ∙ sym (sub 0 e))) (λ e. by-test (has 0 w) (λ f. (0, e, f)) (λ f. above (e ∙ sym f)))

pub fresh-member : (v w : ℕ) → v < 2 ^ 32 → w < 2 ^ 32 → ((k : ℕ) → has k v ≡ true → has k w ≡ true) → v ≢ w
    → (k : ℕ) × (has k v ≡ false) × (has k w ≡ true)
fresh-member v w p q sub d = fresh-below 32 v w p q sub d
