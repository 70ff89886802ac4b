-- The nearest tenth: what it is by the last digit, and that it is the only one that is near. Assumes nothing.
use Prim.Native.Nat.{ℕ, zero, suc, ◌+◌, ◌-◌, ◌*◌, ◌/◌, ◌%◌, ◌≤◌, ◌<◌}
use native.Mathlib.Decide.{dec_lt}
use native.Mathlib.Omega.{arith}
use mathlib.Core.Bool.{Bool, true, false, cond}
use mathlib.Core.List.{List}
use mathlib.Core.Logic.{◌↔◌, dite}
use mathlib.Core.Path.{◌≡◌, refl, sym, ap, subst, ◌∙◌}
use lib.Dec.{ltb}
use lib.IntN.{ℤ, pos, negsuc, neg_ℤ, nat_abs, ◌-ℤ◌, ◌*ℤ◌, neg_ℤ-+ℤ}
use borrow.Author.Tests.{lt-ltb, le-ltb, eq-eqb, ne_eqb, ltb-true, ltb-false}
use Rattle.results.specs.Measure.{sum, nearest, rounded, tenths_of, NearestTenth}

-- ---- by the last digit

module _ (n : ℕ) where
  pub over-half : 5 < n % 10 → nearest n ≡ n / 10 + 1
  unfolding nearest
  over-half h = rw (lt-ltb 5 (n % 10) h)

  pub half : n % 10 ≡ 5 → nearest n ≡ n / 10 + n / 10 % 2
  unfolding nearest
  half h = rw (le-ltb 5 (n % 10) (omega arith), eq-eqb (n % 10) 5 h)

  pub under-half : n % 10 < 5 → nearest n ≡ n / 10
  unfolding nearest
  under-half h = rw (le-ltb 5 (n % 10) (omega arith), ne_eqb (n % 10) 5 (λ e. omega arith))

  by-digit : {P : Type 0} → (5 < n % 10 → nearest n ≡ n / 10 + 1 → P) → (n % 10 ≡ 5 → nearest n ≡ n / 10 + n / 10 % 2 → P)
      → (n % 10 < 5 → nearest n ≡ n / 10 → P) → P
  by-digit f g h =
      dite (dec_lt 5 (n % 10)) (λ o. f o (over-half o))
      (λ o. dite (dec_lt (n % 10) 5) (λ u. h u (under-half u)) (λ u. let e : n % 10 ≡ 5 = omega arith in g e (half e)))

-- ---- sizes

-- by how much m tenths differ from n hundredths
abbrev apart : ℕ → ℕ → ℕ
apart n m = (10 * m - n) + (n - 10 * m)

pub nearest-near : (n : ℕ) → apart n (nearest n) ≤ 5
nearest-near n = by-digit n (λ h e. omega arith) (λ h e. omega arith) (λ h e. omega arith)

nearest-even : (n : ℕ) → apart n (nearest n) ≡ 5 → nearest n % 2 ≡ 0
nearest-even n far = by-digit n (λ h e. omega arith) (λ h e. omega arith) (λ h e. omega arith)

odd-before : (q : ℕ) → suc q % 2 ≡ 0 → q % 2 ≡ 1
odd-before q h = omega arith

-- of two tenths, one after the other, the even one
even-one : (q m : ℕ) → q ≤ m → m ≤ suc q → m % 2 ≡ 0 → q + q % 2 ≡ m
even-one q m low high even =
    dite (dec_lt q m) (λ above. let k : m ≡ suc q = omega arith in omega (arith, odd-before q (rw k at even)))
    (λ same. let k : m ≡ q = omega arith in omega (arith, rw k at even))

nearest-only : (n m : ℕ) → apart n m ≤ 5 → (apart n m ≡ 5 → m % 2 ≡ 0) → nearest n ≡ m
nearest-only n m near even =
    by-digit n (λ h e. omega arith) (λ h e. e ∙ even-one (n / 10) m (omega arith) (omega arith) (even (omega arith))) (λ h e. omega arith)

-- ---- signed numbers

size-neg : (z : ℤ) → nat_abs (neg_ℤ z) ≡ nat_abs z
size-neg (pos zero) = refl
size-neg (pos (suc n)) = refl
size-neg (negsuc n) = refl

difference : (a b : ℕ) → nat_abs (pos a -ℤ pos b) ≡ (a - b) + (b - a)
difference a zero = omega arith
difference a (suc b) = go (ltb a (suc b)) refl
  where
    go : (t : Bool) → ltb a (suc b) ≡ t → nat_abs (cond t (negsuc (suc b - suc a)) (pos (a - suc b))) ≡ (a - suc b) + (suc b - a)
    go true h = let l = ltb-true a (suc b) h in omega arith
    go false h = let l = ltb-false a (suc b) h in omega arith

ten-neg : (m : ℕ) → pos 10 *ℤ neg_ℤ (pos m) ≡ neg_ℤ (pos (10 * m))
ten-neg zero = refl
ten-neg (suc m) = refl

apart-pos : (n m : ℕ) → nat_abs (pos 10 *ℤ pos m -ℤ pos n) ≡ apart n m
apart-pos n m = difference (10 * m) n

apart-neg : (n m : ℕ) → nat_abs (pos 10 *ℤ neg_ℤ (pos m) -ℤ neg_ℤ (pos n)) ≡ apart n m
apart-neg n m =
    ap (λ (z : ℤ). nat_abs (z -ℤ neg_ℤ (pos n))) (ten-neg m)
    ∙ ap nat_abs (sym (neg_ℤ-+ℤ (pos (10 * m)) (neg_ℤ (pos n))))
    ∙ size-neg (pos (10 * m) -ℤ pos n)
    ∙ difference (10 * m) n

-- on different sides of zero the sizes add up
apart-sides : (n m : ℕ) → nat_abs (pos 10 *ℤ neg_ℤ (pos m) -ℤ pos n) ≡ 10 * m + n
apart-sides n m =
    ap (λ (z : ℤ). nat_abs (z -ℤ pos n)) (ten-neg m)
    ∙ ap nat_abs (sym (neg_ℤ-+ℤ (pos (10 * m)) (pos n)))
    ∙ size-neg (pos (10 * m + n))

rounded-near : (z : ℤ) → NearestTenth z (rounded z)
unfolding rounded
rounded-near (pos n) = record {
  near = omega (arith, apart-pos n (nearest n), nearest-near n);
  even = λ e. nearest-even n (sym (apart-pos n (nearest n)) ∙ e);
}
rounded-near (negsuc n) = record {
  near = omega (arith, apart-neg (suc n) (nearest (suc n)), nearest-near (suc n));
  even = λ e. rw (size-neg (pos (nearest (suc n)))) (nearest-even (suc n) (sym (apart-neg (suc n) (nearest (suc n))) ∙ e));
}

rounded-only : (z t : ℤ) → NearestTenth z t → rounded z ≡ t
unfolding rounded
rounded-only (pos n) (pos m) N =
    let d = apart-pos n m in
    ap pos (nearest-only n m (omega (arith, N.near)) (λ e. N.even (d ∙ e)))
rounded-only (pos n) (negsuc m) N = absurd (omega (arith, N.near, apart-sides n (suc m)))
rounded-only (negsuc n) (pos m) N =
    let none : m ≡ 0 = omega (arith, N.near) in
    let small : apart (suc n) 0 ≤ 5 = omega (arith, N.near) in
    ap (λ (k : ℕ). neg_ℤ (pos k)) (nearest-only (suc n) 0 small (λ e. refl)) ∙ ap pos (sym none)
rounded-only (negsuc n) (negsuc m) N =
    let d = apart-neg (suc n) (suc m) in
    ap (λ (k : ℕ). neg_ℤ (pos k)) (nearest-only (suc n) (suc m) (omega (arith, N.near)) (λ e. N.even (d ∙ e)))

-- the tenths of a derivation are the only ones that are nearest to its sum
pub tenths-nearest : (lengths : ℕ → ℤ) (e : List ℕ) (t : ℤ) → (tenths_of lengths e ≡ t) ↔ NearestTenth (sum lengths e) t
tenths-nearest lengths e t =
    (λ h. subst (NearestTenth (sum lengths e)) h (rounded-near (sum lengths e)), rounded-only (sum lengths e) t)
