-- A list whose first n elements are kept and which is filled up to m. Assumes nothing.
use Prim.Native.Nat.{ℕ, zero, suc, ◌+◌, ◌-◌, ◌≤◌, ◌<◌}
use native.Mathlib.Omega.{arith}
use mathlib.Core.Bool.{Bool, true}
use mathlib.Core.List.{List, [], ◌∷◌, ◌++◌, map}
use mathlib.Core.Path.{◌≡◌, refl, sym, ap, ap₂, ◌∙◌}
use lib.ListN.{length, take, get_or, replicate, length-append, length-replicate, get_or-replicate, get_or-append}
use lib.Seq.{length-take-le, get_or-append-add, get_or-take, take_at}
use Rattle.laws.proofs.Bools.{and_parts, and_both}
use Rattle.grammar.specs.Valid.{all}

-- ---- the list has n elements

module _ {A : Type 0} (z : A) (n m : ℕ) (l : List A) (enough : n ≤ length l) where
  front : length (take n l) ≡ n
  front = length-take-le n l enough

  pub padded-front : take n (take n l ++ replicate (m - n) z) ≡ take n l
  padded-front = take_at (take n l) (replicate (m - n) z) n front

  pub padded-size : n ≤ m → length (take n l ++ replicate (m - n) z) ≡ m
  padded-size h = length-append (take n l) (replicate (m - n) z) ∙ ap₂ ◌+◌ front (length-replicate (m - n) z) ∙ omega arith

  pub padded-at : (i : ℕ) (d : A) → i < n → get_or (take n l ++ replicate (m - n) z) i d ≡ get_or l i d
  padded-at i d h =
      get_or-append (take n l) (replicate (m - n) z) d i (omega (arith, front)) ∙ get_or-take n l i d h

  pub padded-past : (i : ℕ) (d : A) → n ≤ i → i < m → get_or (take n l ++ replicate (m - n) z) i d ≡ z
  padded-past i d h k =
      let e : i ≡ length (take n l) + (i - n) = omega (arith, front) in
      ap (λ (j : ℕ). get_or (take n l ++ replicate (m - n) z) j d) e
      ∙ get_or-append-add (take n l) (replicate (m - n) z) (i - n) d ∙ get_or-replicate (m - n) (i - n) z d (omega arith)

-- ---- the list may be shorter: some of the filling is among the first n

module _ {A : Type 0} (z : A) where
  take-replicate : (n k : ℕ) → (j : ℕ) × (take n (replicate k z) ≡ replicate j z)
  take-replicate zero k = (0, refl)
  take-replicate (suc n) zero = (0, refl)
  take-replicate (suc n) (suc k) = let (j, e) = take-replicate n k in (suc j, ap (λ (l : List A). z ∷ l) e)

  pub padded-more : (n k : ℕ) (l : List A) → (j : ℕ) × (take n (take n l ++ replicate k z) ≡ take n l ++ replicate j z)
  padded-more zero k l = (0, refl)
  padded-more (suc n) k [] = take-replicate (suc n) k
  padded-more (suc n) k (a ∷ l) = let (j, e) = padded-more n k l in (j, ap (λ (m : List A). a ∷ m) e)

  pub all-padded : (test : A → Bool) (l : List A) (j : ℕ) → all test l ≡ true → test z ≡ true → all test (l ++ replicate j z) ≡ true
  unfolding all
  all-padded test [] zero h e = refl
  all-padded test [] (suc j) h e = and_both (test z) (all test (replicate j z)) e (all-padded test [] j refl e)
  all-padded test (a ∷ l) j h e =
      let p = and_parts (test a) (all test l) h in
      and_both (test a) (all test (l ++ replicate j z)) p.0 (all-padded test l j p.1 e)

  pub map-padded : {B : Type 0} (f : A → B) (l : List A) (j : ℕ) → map f (l ++ replicate j z) ≡ map f l ++ replicate j (f z)
  map-padded {B} f [] zero = refl
  map-padded {B} f [] (suc j) = ap (λ (m : List B). f z ∷ m) (map-padded f [] j)
  map-padded {B} f (a ∷ l) j = ap (λ (m : List B). f a ∷ m) (map-padded f l j)
