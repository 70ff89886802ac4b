-- Names with their filling: what is before the filling decides the name, and has no sign in it. Assumes nothing.
use Prim.Native.Nat.{ℕ, zero, suc, ◌≤◌, ◌<◌}
use native.Mathlib.Omega.{arith}
use mathlib.Core.Bool.{true, ◌&&◌}
use mathlib.Core.List.{List, [], ◌∷◌, head-eq_of_cons-eq, tail-eq_of_cons-eq}
use mathlib.Core.Logic.{◌≢◌}
use mathlib.Core.Path.{◌≡◌, refl, sym, ap, ap₂, ◌∙◌}
use lib.Dec.{leb, eqb}
use lib.ListN.{length, get_or, take, replicate}
use borrow.Author.Tests.{leb-true, eqb-true, ne_eqb}
use Rattle.laws.proofs.Bools.{clash, by-test, and_parts, and-parts₃}
use Rattle.theory_words.specs.Name.{name_size, blank, name_byte, filling, filled_up, valid_name, unfilled}
use Rattle.theory_words.specs.Words.{opening, closing, leaf_sign}

-- none of the bytes is `(`, `)` or `=`
pub data Plain : List ℕ → Type 0 where
  plain-none : Plain []
  plain_more : {b : ℕ} {l : List ℕ} → b ≢ opening → b ≢ closing → b ≢ leaf_sign → Plain l → Plain (b ∷ l)

-- bytes of a name, and then blanks only
pub data Filled : List ℕ → Type 0 where
  filled-end : {l : List ℕ} → l ≡ replicate (length l) blank → Filled l
  filled_more : {b : ℕ} {l : List ℕ} → name_byte b ≡ true → Filled l → Filled (b ∷ l)

-- where a byte of a name is
pub record NameByte (b : ℕ) : Type 0 where
  pub from0 : 0x30 ≤ b
  pub other : b ≢ leaf_sign

pub name-byte : (b : ℕ) → name_byte b ≡ true → NameByte b
unfolding name_byte
name-byte b e = by-test (leb 0x41 b && leb b 0x5A)
    (λ t. let p = and_parts (leb 0x41 b) (leb b 0x5A) t in
    let low = leb-true 0x41 b p.0 in
    record { from0 = omega arith; other = omega arith })
    (λ f. let q : (leb 0x30 b && leb b 0x39) ≡ true = rw f at e in
    let p = and_parts (leb 0x30 b) (leb b 0x39) q in
    let low = leb-true 0x30 b p.0 in
    let high = leb-true b 0x39 p.1 in
    record { from0 = omega arith; other = omega arith })

filling-blanks : (l : List ℕ) → filling l ≡ true → l ≡ replicate (length l) blank
unfolding filling
filling-blanks [] e = refl
filling-blanks (b ∷ l) e =
    let p = and_parts (eqb b blank) (filling l) e in
    ap₂ ◌∷◌ (eqb-true b blank p.0) (filling-blanks l p.1)

pub filled : (l : List ℕ) → filled_up l ≡ true → Filled l
unfolding filled_up
filled [] e = filled-end refl
filled (b ∷ l) e = by-test (name_byte b)
    (λ t. filled_more t (filled l (rw t at e)))
    (λ f. filled-end (filling-blanks (b ∷ l) (rw f at e)))

-- what is used of a valid name
pub record ValidName (name : List ℕ) : Type 0 where
  pub size : length name ≡ name_size
  pub form : Filled name

pub valid-name : (name : List ℕ) → valid_name name ≡ true → ValidName name
unfolding valid_name
valid-name name e =
    let p = and-parts₃ (eqb (length name) name_size) (name_byte (get_or name 0 0)) (filled_up name) e in
    record { size = eqb-true (length name) name_size p.0; form = filled name p.2 }

-- no byte of a name is a blank
unfilled-more : (b : ℕ) (l : List ℕ) → name_byte b ≡ true → unfilled (b ∷ l) ≡ b ∷ unfilled l
unfolding unfilled
unfilled-more b l t = let n = name-byte b t in rw (ne_eqb b blank (omega arith))

unfilled-end : (n : ℕ) → unfilled (replicate n blank) ≡ []
unfolding unfilled
unfilled-end zero = refl
unfilled-end (suc n) = refl

pub unfilled-plain : {l : List ℕ} → Filled l → Plain (unfilled l)
unfilled-plain (filled-end {l} e) = rw (e, unfilled-end (length l)) plain-none
unfilled-plain (filled_more {b} {l} t f) =
    let n = name-byte b t in
    rw (unfilled-more b l t) (plain_more {b = b} (omega arith) (omega arith) n.other (unfilled-plain f))

-- a text that begins with a byte of a name is not that of a filling
end_more : (b : ℕ) (l m : List ℕ) → name_byte b ≡ true → l ≡ replicate (length l) blank → unfilled l ≡ unfilled (b ∷ m) → ⊥
end_more b l m t e u =
    let both : [] ≡ b ∷ unfilled m = sym (ap unfilled e ∙ unfilled-end (length l)) ∙ u ∙ unfilled-more b m t in
    clash cc

-- names of one size that are the same without their filling are the same
pub unfilled-same : {l m : List ℕ} → Filled l → Filled m → length l ≡ length m → unfilled l ≡ unfilled m → l ≡ m
unfilled-same (filled-end e) (filled-end f) n u = e ∙ ap (λ k. replicate k blank) n ∙ sym f
unfilled-same (filled-end {l} e) (filled_more {b} {l = m} t f) n u = absurd (end_more b l m t e u)
unfilled-same (filled_more {b} {l} t f) (filled-end {l = m} e) n u = absurd (end_more b m l t e (sym u))
unfilled-same (filled_more {b} {l} t f) (filled_more {b = c} {l = m} s g) n u =
    let both : b ∷ unfilled l ≡ c ∷ unfilled m = sym (unfilled-more b l t) ∙ u ∙ unfilled-more c m s in
    ap₂ ◌∷◌ (head-eq_of_cons-eq both) (unfilled-same f g (omega arith) (tail-eq_of_cons-eq both))

-- no name begins with `#`
pub unfilled-not-number : {l : List ℕ} (x : List ℕ) → Filled l → unfilled l ≡ 0x23 ∷ x → ⊥
unfilled-not-number x (filled-end {l} e) u =
    let both : [] ≡ 0x23 ∷ x = sym (ap unfilled e ∙ unfilled-end (length l)) ∙ u in
    clash cc
unfilled-not-number x (filled_more {b} {l} t f) u =
    let n = name-byte b t in
    omega (arith, head-eq_of_cons-eq (sym (unfilled-more b l t) ∙ u))

-- a name is no longer without its filling
pub unfilled-short : (l : List ℕ) → length (unfilled l) ≤ length l
unfolding unfilled
unfilled-short [] = omega arith
unfilled-short (b ∷ l) =
    let h = unfilled-short l in
    by-test (eqb b blank) (λ e. rw e (omega arith)) (λ e. rw e (omega arith))

-- it is a front of the name
pub unfilled-front : (l : List ℕ) → unfilled l ≡ take (length (unfilled l)) l
unfolding unfilled
unfilled-front [] = refl
unfilled-front (b ∷ l) = by-test (eqb b blank) (λ e. rw e) (λ e. rw e (ap (λ x. b ∷ x) (unfilled-front l)))

-- a valid name is not empty without its filling
pub unfilled-some : (name : List ℕ) → valid_name name ≡ true → 0 < length (unfilled name)
unfolding valid_name
unfilled-some name e =
    let p = and-parts₃ (eqb (length name) name_size) (name_byte (get_or name 0 0)) (filled_up name) e in
    begins name (eqb-true (length name) name_size p.0) p.1
  where
    begins : (l : List ℕ) → length l ≡ name_size → name_byte (get_or l 0 0) ≡ true → 0 < length (unfilled l)
    begins [] n t = absurd (omega arith)
    begins (b ∷ l) n t = rw (unfilled-more b l t) (omega arith)
