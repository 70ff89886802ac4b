-- Records of numbers one after the other: one more record read, and one more written. Assumes nothing.
use Prim.Native.Nat.{ℕ, zero, suc, ◌+◌, ◌*◌, ◌≤◌, ◌<◌}
use native.Mathlib.Numerals.{add-one}
use native.Mathlib.Omega.{arith}
use mathlib.Core.List.{List, [], ◌∷◌, ◌++◌, flat_map, append_assoc, append-nil}
use mathlib.Core.Path.{◌≡◌, refl, sym, ap, ◌∙◌}
use lib.ListN.{length, get_or, take, set, length-set}
use lib.Seq.{take_all, take-suc-set}
use Rattle.c_grammar.specs.Flat.{records_from}

-- ---- one more store after a prefix

module _ {A : Type 0} where
  -- k is one past the index of the store
  pub put_one : (f : List A) (n k : ℕ) (a : A) → k ≡ n + 1 → n < length f → take k (set f n a) ≡ take n f ++ (a ∷ [])
  put_one f n k a e h =
      let d : k ≡ suc n = omega arith in
      ap (λ (j : ℕ). take j (set f n a)) d ∙ take-suc-set f n a h

  pub put_two : (f : List A) (n m k : ℕ) (a b : A) → m ≡ n + 1 → k ≡ n + 2 → m < length f
      → take k (set (set f n a) m b) ≡ take n f ++ (a ∷ b ∷ [])
  put_two f n m k a b d e h =
      put_one (set f n a) m k b (omega arith) (omega (arith, length-set f n a))
      ∙ ap (λ (x : List A). x ++ (b ∷ [])) (put_one f n m a d (omega arith))
      ∙ append_assoc (take n f) (a ∷ []) (b ∷ [])

  pub put_three : (f : List A) (n m k j : ℕ) (a b c : A) → m ≡ n + 1 → k ≡ n + 2 → j ≡ n + 3 → k < length f
      → take j (set (set (set f n a) m b) k c) ≡ take n f ++ (a ∷ b ∷ c ∷ [])
  put_three f n m k j a b c d e i h =
      put_one (set (set f n a) m b) k j c (omega arith) (omega (arith, length-set f n a, length-set (set f n a) m b))
      ∙ ap (λ (x : List A). x ++ (c ∷ [])) (put_two f n m k a b d e (omega arith))
      ∙ append_assoc (take n f) (a ∷ b ∷ []) (c ∷ [])

-- ---- one more record read

module _ {A : Type 0} (read : ℕ → A) (w : ℕ) where
  pub records-more : (n at k : ℕ) → k ≡ at + w * n → records_from read w at (suc n) ≡ records_from read w at n ++ (read k ∷ [])
  unfolding records_from
  records-more zero at k e =
      let d : at ≡ k = omega arith in
      ap (λ (j : ℕ). read j ∷ []) d
  records-more (suc n) at k e = ap (λ (x : List A). read at ∷ x) (records-more n (at + w) k (omega arith))

  -- l has m elements, and the first n of them are records that were read
  pub record Read (at m n : ℕ) (l : List A) : Type 0 where
    pub low : n ≤ m
    pub long : length l ≡ m
    pub front : take n l ≡ records_from read w at n

  module _ (at m : ℕ) (l : List A) where
    pub read-start : length l ≡ m → Read at m 0 l
    unfolding records_from
    read-start h = record { low = omega arith; long = h; front = refl }

    -- one more record
    pub read_step : (n k : ℕ) (a : A) → Read at m n l → n < m → a ≡ read k → k ≡ at + w * n → Read at m (n + 1) (set l n a)
    read_step n k a R h r e = record {
      low = omega arith;
      long = length-set l n a ∙ R.long;
      front =
          put_one l n (n + 1) a refl (omega arith) ∙ (λ i. R.front i ++ (r i ∷ [])) ∙ sym (records-more n at k e)
          ∙ ap (records_from read w at) (sym (add-one n));
    }

    -- the whole array
    pub read_done : (n : ℕ) → Read at m n l → m ≤ n → l ≡ records_from read w at m
    read_done n R h =
        let d : n ≡ m = omega arith in
        sym (take_all n l (omega arith)) ∙ R.front ∙ ap (records_from read w at) d

-- ---- one more record written

module _ {A : Type 0} (flat : A → List ℕ) where
  flat-more : (l : List A) (d : A) (q : ℕ) → q < length l → flat_map flat (take (suc q) l) ≡ flat_map flat (take q l) ++ flat (get_or l q d)
  unfolding flat_map
  flat-more [] d q h = absurd (omega arith)
  flat-more (a ∷ l) d zero h = append-nil (flat a)
  flat-more (a ∷ l) d (suc q) h =
      ap (λ (x : List ℕ). flat a ++ x) (flat-more l d q (omega arith))
      ∙ sym (append_assoc (flat a) (flat_map flat (take q l)) (flat (get_or l q d)))

  -- y is x and the first q records, and z has one record more
  pub flat_step : (l : List A) (d : A) (q : ℕ) (x y z : List ℕ) → q < length l → y ≡ x ++ flat_map flat (take q l)
      → z ≡ y ++ flat (get_or l q d) → z ≡ x ++ flat_map flat (take (q + 1) l)
  flat_step l d q x y z h e f =
      f ∙ ap (λ (v : List ℕ). v ++ flat (get_or l q d)) e ∙ append_assoc x (flat_map flat (take q l)) (flat (get_or l q d))
      ∙ ap (λ (v : List ℕ). x ++ v) (sym (flat-more l d q h) ∙ ap (λ (k : ℕ). flat_map flat (take k l)) (sym (add-one q)))

-- ---- bytes

-- a byte is one number
abbrev pub flat_byte : ℕ → List ℕ
flat_byte b = b ∷ []

pub flat-bytes : (l : List ℕ) → flat_map flat_byte l ≡ l
unfolding flat_map
flat-bytes [] = refl
flat-bytes (b ∷ l) = ap (λ (x : List ℕ). b ∷ x) (flat-bytes l)
