-- Distinct names: what is known of two of them, one name more, another last name, and a name that was there. Assumes nothing.
use Prim.Native.Nat.{ℕ, zero, suc, ◌<◌}
use native.Mathlib.Nat.{le_of_suc-le-suc, not-suc-le-zero}
use mathlib.Core.Bool.{Bool, true, false, not, ◌||◌, and-false, or-true}
use mathlib.Core.List.{List, [], ◌∷◌}
use mathlib.Core.Path.{◌≡◌, refl, sym, ap, ◌∙◌}
use lib.ListN.{take, get_or, set}
use lib.Seq.{get_or-take}
use borrow.Author.Tests.{not-true}
use Rattle.laws.proofs.Bools.{clash, true-false, by-test, bool_false, and_parts, and_both, or-neither}
use Rattle.theory_words.specs.Name.{unnamed, same_name, has_name}
use Rattle.theory_words.proofs.SameName.{same-name, same-name-refl}
use Rattle.grammar.specs.Valid.{distinct_names}

-- a rule may have this name beside rules of these names
abbrev pub free : List ℕ → List (List ℕ) → Bool
free name names = unnamed name || not (has_name name names)

-- ---- one name

module _ (name : List ℕ) where
  free-not : (l : List (List ℕ)) → unnamed name ≡ false → free name l ≡ true → has_name name l ≡ false
  free-not l f h = not-true (has_name name l) (rw f at h)

  pub not_free : (l : List (List ℕ)) → has_name name l ≡ false → free name l ≡ true
  not_free l h = rw h (or-true (unnamed name))

  -- beside fewer names
  has-front : (l : List (List ℕ)) (q : ℕ) → has_name name (take (suc q) l) ≡ false → has_name name (take q l) ≡ false
  unfolding has_name
  has-front l zero h = refl
  has-front [] (suc q) h = refl
  has-front (a ∷ l) (suc q) h =
      let (p, r) = or-neither (same_name name a) (has_name name (take (suc q) l)) h in
      rw (p, has-front l q r)

  pub free-front : (l : List (List ℕ)) (q : ℕ) → free name (take (suc q) l) ≡ true → free name (take q l) ≡ true
  free-front l q h = by-test (unnamed name) (λ t. rw t) (λ f. not_free (take q l) (has-front l q (free-not (take (suc q) l) f h)))

  free-rest : (a : List ℕ) (l : List (List ℕ)) → free name (a ∷ l) ≡ true → free name l ≡ true
  unfolding has_name
  free-rest a l h = by-test (unnamed name) (λ t. rw t)
      (λ f. not_free l (or-neither (same_name name a) (has_name name l) (free-not (a ∷ l) f h)).1)

  -- beside one name more
  has-set : (l : List (List ℕ)) (q : ℕ) (v : List ℕ) → has_name name (take q l) ≡ false → same_name name v ≡ false
      → has_name name (take (suc q) (set l q v)) ≡ false
  unfolding has_name
  has-set [] q v h e = refl
  has-set (a ∷ l) zero v h e = rw e
  has-set (a ∷ l) (suc q) v h e =
      let (p, r) = or-neither (same_name name a) (has_name name (take q l)) h in
      rw (p, has-set l q v r e)

-- a name differs from one that may stand beside it
differs : (a v : List ℕ) (l : List (List ℕ)) → unnamed a ≡ false → free v (a ∷ l) ≡ true → same_name a v ≡ false
unfolding has_name
differs a v l f h = bool_false (same_name a v) (λ t.
    let e = same-name a v t in
    let n = free-not v (a ∷ l) (ap unnamed (sym e) ∙ f) h in
    true-false (ap (same_name v) e ∙ same-name-refl v) (or-neither (same_name v a) (has_name v l) n).0)

free-set : (a v : List ℕ) (l : List (List ℕ)) (q : ℕ) → free a (take q l) ≡ true → free v (a ∷ take q l) ≡ true
    → free a (take (suc q) (set l q v)) ≡ true
free-set a v l q h k = by-test (unnamed a) (λ t. rw t)
    (λ f. not_free a (take (suc q) (set l q v)) (has-set a l q v (free-not a (take q l) f h) (differs a v (take q l) f k)))

-- a name that is there is among the names
has-at : (l : List (List ℕ)) (q : ℕ) → unnamed (get_or l q []) ≡ false → has_name (get_or l q []) l ≡ true
unfolding has_name unnamed
has-at [] q u = clash cc
has-at (a ∷ l) zero u = rw (same-name-refl a)
has-at (a ∷ l) (suc q) u = rw (has-at l q u) (or-true (same_name (get_or l q []) a))

-- ---- distinct names

-- one name more, or another last one
pub distinct-set : (l : List (List ℕ)) (q : ℕ) (v : List ℕ) → distinct_names (take q l) ≡ true → free v (take q l) ≡ true
    → distinct_names (take (suc q) (set l q v)) ≡ true
unfolding distinct_names has_name
distinct-set [] q v h e = refl
distinct-set (a ∷ l) zero v h e = and_both (unnamed v || true) true (or-true (unnamed v)) refl
distinct-set (a ∷ l) (suc q) v h e =
    let (p, r) = and_parts (free a (take q l)) (distinct_names (take q l)) h in
    and_both (free a (take (suc q) (set l q v))) (distinct_names (take (suc q) (set l q v)))
    (free-set a v l q p e) (distinct-set l q v r (free-rest v a (take q l) e))

pub distinct-front : (l : List (List ℕ)) (q : ℕ) → distinct_names (take (suc q) l) ≡ true → distinct_names (take q l) ≡ true
unfolding distinct_names
distinct-front l zero h = refl
distinct-front [] (suc q) h = refl
distinct-front (a ∷ l) (suc q) h =
    let (p, r) = and_parts (free a (take (suc q) l)) (distinct_names (take (suc q) l)) h in
    and_both (free a (take q l)) (distinct_names (take q l)) (free-front a l q p) (distinct-front l q r)

-- a name that was there before
pub distinct-refuses : (l : List (List ℕ)) (n q : ℕ) → q < n → unnamed (get_or l q []) ≡ false → has_name (get_or l q []) (take q l) ≡ true
    → distinct_names (take n l) ≡ false
unfolding distinct_names has_name unnamed
distinct-refuses l zero q h u e = absurd (not-suc-le-zero h)
distinct-refuses [] (suc n) q h u e = clash cc
distinct-refuses (a ∷ l) (suc n) zero h u e = clash cc
distinct-refuses (a ∷ l) (suc n) (suc q) h u e = by-test (same_name (get_or l q []) a)
    (λ t. let s = same-name (get_or l q []) a t in
    let e = get_or-take n l q [] (le_of_suc-le-suc h) in
    let k : has_name a (take n l) ≡ true =
    ap (λ (x : List ℕ). has_name x (take n l)) (sym (e ∙ s)) ∙ has-at (take n l) q (ap unnamed e ∙ u) in
    rw (k, ap unnamed (sym s) ∙ u))
    (λ f. rw (distinct-refuses l n q (le_of_suc-le-suc h) u (rw f at e)) (and-false (free a (take n l))))

-- of two rules of the same name one comes later
pub distinct-at : (l : List (List ℕ)) (q r : ℕ) → distinct_names l ≡ true → q < r → unnamed (get_or l q []) ≡ false
    → get_or l q [] ≡ get_or l r [] → ⊥
unfolding distinct_names unnamed
distinct-at [] q r h k u e = clash cc
distinct-at (a ∷ l) q zero h k u e = absurd (not-suc-le-zero k)
distinct-at (a ∷ l) zero (suc r) h k u e =
    true-false (ap (λ (x : List ℕ). has_name x l) e ∙ has-at l r (ap unnamed (sym e) ∙ u))
    (free-not a l u (and_parts (free a l) (distinct_names l) h).0)
distinct-at (a ∷ l) (suc q) (suc r) h k u e =
    distinct-at l q r (and_parts (free a l) (distinct_names l) h).1 (le_of_suc-le-suc k) u e
