-- Names are the same exactly if the test says so, and a valid name is not that of a rule without one. Assumes nothing.
use Prim.Native.Nat.{ℕ}
use mathlib.Core.Bool.{true, false, ◌&&◌}
use mathlib.Core.List.{List, [], ◌∷◌}
use mathlib.Core.Path.{◌≡◌, refl, ap₂}
use lib.Dec.{eqb}
use lib.ListN.{length, get_or}
use native.Mathlib.Omega.{arith}
use borrow.Author.Tests.{eqb-true, eq-eqb}
use Rattle.laws.proofs.Bools.{clash, bool_false, and_parts, and-parts₃, and_both}
use Rattle.theory_words.specs.Name.{name_size, name_byte, filled_up, valid_name, unnamed, same_name}
use Rattle.theory_words.proofs.Filled.{name-byte}

pub same-name : (l m : List ℕ) → same_name l m ≡ true → l ≡ m
unfolding same_name
same-name [] [] e = refl
same-name [] (b ∷ m) e = clash cc
same-name (a ∷ l) [] e = clash cc
same-name (a ∷ l) (b ∷ m) e = let (p, q) = and_parts (eqb a b) (same_name l m) e in ap₂ ◌∷◌ (eqb-true a b p) (same-name l m q)

pub same-name-refl : (l : List ℕ) → same_name l l ≡ true
unfolding same_name
same-name-refl [] = refl
same-name-refl (a ∷ l) = and_both (eqb a a) (same_name l l) (eq-eqb a a refl) (same-name-refl l)

-- the first of zeros is zero, also that of no byte
zeros-first : (l : List ℕ) → unnamed l ≡ true → get_or l 0 0 ≡ 0
unfolding unnamed
zeros-first [] e = refl
zeros-first (b ∷ l) e = eqb-true b 0 (and_parts (eqb b 0) (unnamed l) e).0

pub valid-named : (name : List ℕ) → valid_name name ≡ true → unnamed name ≡ false
unfolding valid_name
valid-named name v = bool_false (unnamed name) (λ t.
    let n = name-byte (get_or name 0 0) (and-parts₃ (eqb (length name) name_size) (name_byte (get_or name 0 0)) (filled_up name) v).1 in
    omega (arith, n.from0, zeros-first name t))
