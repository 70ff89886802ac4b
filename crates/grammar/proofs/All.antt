-- The test `all` over the front of a list. A read past the end of the list gives d. Assumes nothing.
use Prim.Native.Nat.{ℕ, zero, suc, ◌+◌, ◌-◌, ◌<◌}
use native.Mathlib.Nat.{le_of_suc-le-suc, not-suc-le-zero}
use native.Mathlib.Numerals.{add-one}
use native.Mathlib.Omega.{arith}
use mathlib.Core.Bool.{Bool, true, false, ◌&&◌, and-false}
use mathlib.Core.List.{List, [], ◌∷◌}
use mathlib.Core.Path.{◌≡◌, refl, ap}
use lib.ListN.{take, get_or, set}
use Rattle.std.specs.List.{list_all}
use Rattle.laws.proofs.Bools.{true-false, by-test, and_parts, and_both}
use Rattle.grammar.specs.Valid.{all}

-- the same as std's test of a list
pub all-list : {A : Type 0} (test : A → Bool) (l : List A) → all test l ≡ list_all test l
unfolding all
all-list test [] = refl
all-list test (a ∷ l) = ap (λ (b : Bool). test a && b) (all-list test l)

module _ {A : Type 0} (test : A → Bool) (d : A) where
  all-suc : (l : List A) (q : ℕ) → all test (take q l) ≡ true → test (get_or l q d) ≡ true → all test (take (suc q) l) ≡ true
  unfolding all
  all-suc [] q h e = refl
  all-suc (a ∷ l) zero h e = and_both (test a) true e refl
  all-suc (a ∷ l) (suc q) h e =
      let p = and_parts (test a) (all test (take q l)) h in
      and_both (test a) (all test (take (suc q) l)) p.0 (all-suc l q p.1 e)

  -- one more element passes
  pub all_more : (l : List A) (q : ℕ) → all test (take q l) ≡ true → test (get_or l q d) ≡ true → all test (take (q + 1) l) ≡ true
  all_more l q h e = rw add-one (all-suc l q h e)

  module _ (fine : test d ≡ true) where
    -- the test fails if it fails at an element of the front
    pub all-refuses : (l : List A) (n q : ℕ) → q < n → test (get_or l q d) ≡ false → all test (take n l) ≡ false
    unfolding all
    all-refuses [] n q h e = absurd (true-false fine e)
    all-refuses (a ∷ l) zero q h e = absurd (not-suc-le-zero h)
    all-refuses (a ∷ l) (suc n) zero h e = rw e
    all-refuses (a ∷ l) (suc n) (suc q) h e = rw (all-refuses l n q (le_of_suc-le-suc h) e) (and-false (test a))

    -- if the test passes, each element of the front passes
    pub all-at : (l : List A) (n q : ℕ) → q < n → all test (take n l) ≡ true → test (get_or l q d) ≡ true
    all-at l n q h e = by-test (test (get_or l q d)) (λ t. t) (λ t. absurd (true-false e (all-refuses l n q h t)))

module _ {A : Type 0} (test : A → Bool) where
  -- the test passes on a front if it passes before its last element, and that is set to one that passes
  pub all_set : (l : List A) (q : ℕ) (v : A) → all test (take q l) ≡ true → test v ≡ true → all test (take (suc q) (set l q v)) ≡ true
  unfolding all
  all_set [] q v h e = refl
  all_set (a ∷ l) zero v h e = and_both (test v) true e refl
  all_set (a ∷ l) (suc q) v h e =
      let p = and_parts (test a) (all test (take q l)) h in
      and_both (test a) (all test (take (suc q) (set l q v))) p.0 (all_set l q v p.1 e)

  all-front : (l : List A) (q : ℕ) → all test (take (suc q) l) ≡ true → all test (take q l) ≡ true
  unfolding all
  all-front l zero h = refl
  all-front [] (suc q) h = refl
  all-front (a ∷ l) (suc q) h =
      let p = and_parts (test a) (all test (take (suc q) l)) h in
      and_both (test a) (all test (take q l)) p.0 (all-front l q p.1)

  -- the test still passes on the first n elements after the last of them is set to one that passes
  pub all-last : (l : List A) (n : ℕ) (v : A) → 0 < n → all test (take n l) ≡ true → test v ≡ true
      → all test (take n (set l (n - 1) v)) ≡ true
  all-last l zero v z h e = absurd (omega arith)
  all-last l (suc q) v z h e = let p : suc q - 1 ≡ q = omega arith in rw p (all_set l q v (all-front l q h) e)

  -- the test still passes after the last element is changed into one that passes if the element did
  pub all_changed : (l : List A) (q : ℕ) (f : A → A) (d : A) → ((a : A) → test a ≡ true → test (f a) ≡ true)
      → all test (take (suc q) l) ≡ true → all test (take (suc q) (set l q (f (get_or l q d)))) ≡ true
  unfolding all
  all_changed [] q f d h e = refl
  all_changed (a ∷ l) zero f d h e = and_both (test (f a)) true (h a (and_parts (test a) true e).0) refl
  all_changed (a ∷ l) (suc q) f d h e =
      let p = and_parts (test a) (all test (take (suc q) l)) e in
      and_both (test a) (all test (take (suc q) (set l q (f (get_or l q d))))) p.0 (all_changed l q f d h p.1)
