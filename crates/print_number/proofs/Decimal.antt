-- Numbers in decimal: below 10 one digit, else the digits of a tenth of the number and then the last digit; how many digits there are.
-- Assumes nothing.
use Prim.Native.Nat.{ℕ, zero, suc, ◌+◌, ◌*◌, ◌/◌, ◌%◌, ◌^◌, ◌≤◌, ◌<◌}
use native.Mathlib.Nat.{pow-suc}
use native.Mathlib.Decide.{dec_lt}
use native.Mathlib.Omega.{arith}
use mathlib.Core.Logic.{dite}
use mathlib.Core.List.{List, [], ◌∷◌, ◌++◌}
use mathlib.Core.Path.{◌≡◌, sym, ap, ◌∙◌}
use lib.ListN.{length, length-append}
use borrow.Author.Tests.{lt-ltb, le-ltb}
use Rattle.text.specs.Number.{digit, decimal_by, decimal}
use Rattle.print_number.specs.Put.{Put}
use Rattle.print_number.proofs.Writing.{put-append, put_same}

-- ---- the digits

by_one : (k n : ℕ) → n < 10 → decimal_by (suc k) n ≡ digit n ∷ []
unfolding decimal_by
by_one k n h = rw (decimal_by, lt-ltb n 10 h)

by-more : (k n : ℕ) → 10 ≤ n → decimal_by (suc k) n ≡ decimal_by k (n / 10) ++ (digit (n % 10) ∷ [])
unfolding decimal_by
by-more k n h = rw (decimal_by, le-ltb n 10 h)

-- any two bounds on the number of digits that suffice give the same digits
by-any : (k j n : ℕ) → n < k → n < j → decimal_by k n ≡ decimal_by j n
by-any zero j n h l = absurd (omega arith)
by-any (suc k) zero n h l = absurd (omega arith)
by-any (suc k) (suc j) n h l =
    dite (dec_lt n 10) (λ s. by_one k n s ∙ sym (by_one j n s))
    (λ s.
    by-more k n (omega arith) ∙ ap (λ (x : List ℕ). x ++ (digit (n % 10) ∷ [])) (by-any k j (n / 10) (omega arith) (omega arith))
    ∙ sym (by-more j n (omega arith)))

pub decimal-one : (n : ℕ) → n < 10 → decimal n ≡ digit n ∷ []
unfolding decimal
decimal-one n h = by_one n n h

pub decimal-more : (n : ℕ) → 10 ≤ n → decimal n ≡ decimal (n / 10) ++ (digit (n % 10) ∷ [])
unfolding decimal
decimal-more n h =
    by-more n n h ∙ ap (λ (x : List ℕ). x ++ (digit (n % 10) ∷ [])) (by-any n (suc (n / 10)) (n / 10) (omega arith) (omega arith))

-- ---- how many there are

length-one : (n : ℕ) → n < 10 → length (decimal n) ≡ 1
length-one n h = ap length (decimal-one n h)

length_more : (n : ℕ) → 10 ≤ n → length (decimal n) ≡ length (decimal (n / 10)) + 1
length_more n h = ap length (decimal-more n h) ∙ length-append (decimal (n / 10)) (digit (n % 10) ∷ [])

pub digits : (k n : ℕ) → n < 10 ^ suc k → length (decimal n) ≤ suc k
digits zero n h = omega (arith, length-one n h)
digits (suc k) n h =
    dite (dec_lt n 10) (λ s. omega (arith, length-one n s))
    (λ s.
    let e : 10 ^ suc (suc k) ≡ 10 ^ suc k * 10 = pow-suc 10 (suc k) in
    let l : length (decimal (n / 10)) ≤ suc k = digits k (n / 10) (omega arith) in
    omega (arith, length_more n (omega arith)))

-- a number of 16 bits
pub digits-16 : (n : ℕ) → n < 65536 → length (decimal n) ≤ 5
digits-16 n h = digits 4 n (omega arith)

-- ---- written

pub room-one : (n at m : ℕ) → n < 10 → at + length (decimal n) ≤ m → at < m
room-one n at m h l = omega (arith, length-one n h)

pub room-more : (n at m : ℕ) → 10 ≤ n → at + length (decimal n) ≤ m → at + length (decimal (n / 10)) ≤ m
room-more n at m h l = omega (arith, length_more n h)

-- room for the last digit
pub room-last : (n at mid m k : ℕ) → 10 ≤ n → at + length (decimal n) ≤ m → mid ≡ at + length (decimal (n / 10)) → k ≡ m → mid < k
room-last n at mid m k h l e f = omega (arith, length_more n h)

pub written_one : (n at end : ℕ) (o₁ o₂ : List ℕ) → n < 10 → Put (digit n ∷ []) at end o₁ o₂ → Put (decimal n) at end o₁ o₂
written_one n at end o₁ o₂ h p = put_same (sym (decimal-one n h)) p

pub written-more : (n at mid end : ℕ) (o₁ o₂ o₃ : List ℕ) → 10 ≤ n → Put (decimal (n / 10)) at mid o₁ o₂
    → Put (digit (n % 10) ∷ []) mid end o₂ o₃ → Put (decimal n) at end o₁ o₃
written-more n at mid end o₁ o₂ o₃ h p q = put_same (sym (decimal-more n h)) (put-append p q)
