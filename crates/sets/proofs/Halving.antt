-- A set by its lowest bit and the rest: membership and insertion at 0, and at k + 1 through w / 2. The other laws follow from these.
-- Assumes nothing.
use Prim.Native.Nat.{ℕ, suc, ◌+◌, ◌*◌, ◌/◌, ◌%◌, ◌^◌}
use mathlib.Core.Bool.{Bool, true, false, cond}
use mathlib.Core.Logic.{◌≢◌}
use mathlib.Core.Path.{◌≡◌, sym, ap, ◌∙◌}
use native.Mathlib.Nat.{div-one, pow-suc}
use native.Mathlib.Numerals.{one-add}
use native.Mathlib.Omega.{arith}
use lib.Dec.{eqb}
use lib.Pow.{shr-shr}
use borrow.Author.Tests.{eqb-true, eqb-false}
use Rattle.laws.proofs.Bools.{by-test}
use Rattle.sets.specs.Set.{has, insert}

pub has-zero : (w : ℕ) → has 0 w ≡ eqb (w % 2) 1
unfolding has
has-zero w = ap (λ (x : ℕ). eqb (x % 2) 1) (div-one w)

pub has-suc : (k w : ℕ) → has (suc k) w ≡ has k (w / 2)
unfolding has
has-suc k w = ap (λ (x : ℕ). eqb (x % 2) 1) (ap (λ (x : ℕ). w / 2 ^ x) (sym (one-add k)) ∙ sym (shr-shr w 1 k))

-- the lowest bit is 1 if 0 is in the set, else 0
pub has-zero-true : (w : ℕ) → has 0 w ≡ true → w % 2 ≡ 1
has-zero-true w e = eqb-true (w % 2) 1 (sym (has-zero w) ∙ e)

pub has-zero-false : (w : ℕ) → has 0 w ≡ false → w % 2 ≡ 0
has-zero-false w e =
    let f : w % 2 ≢ 1 = eqb-false (w % 2) 1 (sym (has-zero w) ∙ e) in
    omega arith

-- insertion by cases on membership
pub insert-old : (k w : ℕ) → has k w ≡ true → insert k w ≡ w
unfolding insert
insert-old k w e = ap (λ (b : Bool). cond b w (w + 2 ^ k)) e

pub insert-fresh : (k w : ℕ) → has k w ≡ false → insert k w ≡ w + 2 ^ k
unfolding insert
insert-fresh k w e = ap (λ (b : Bool). cond b w (w + 2 ^ k)) e

-- insertion of 0 sets the lowest bit and keeps the rest
pub insert-zero : (w : ℕ) → insert 0 w ≡ w / 2 * 2 + 1
insert-zero w = by-test (has 0 w)
    (λ e. omega (arith, insert-old 0 w e, has-zero-true w e))
    (λ e. omega (arith, insert-fresh 0 w e, has-zero-false w e))

-- insertion of k + 1 keeps the lowest bit and inserts k into the rest
pub insert-suc : (k w : ℕ) → insert (suc k) w ≡ insert k (w / 2) * 2 + w % 2
insert-suc k w = by-test (has k (w / 2))
    (λ e. omega (arith, insert-old (suc k) w (has-suc k w ∙ e), insert-old k (w / 2) e))
    (λ e. omega (arith, insert-fresh (suc k) w (has-suc k w ∙ e), insert-fresh k (w / 2) e, pow-suc 2 k))
