-- A row of words, one of which gets another member, always or only if a test holds. Assumes nothing.
use Prim.Native.Nat.{ℕ, ◌<◌}
use mathlib.Core.Bool.{Bool, true, false, cond}
use mathlib.Core.List.{List}
use mathlib.Core.Logic.{◌⊎◌, inl, inr, ⊎_elim, dite}
use mathlib.Core.Path.{◌≡◌, refl, sym, ap, ◌∙◌}
use native.Mathlib.Decide.{ℕ_discrete}
use lib.ListN.{length, get_or, set}
use lib.Seq.{get_or-set_same, set-get_or}
use Rattle.laws.proofs.Lists.{set-each}
use Rattle.sets.specs.Set.{has, insert}
use Rattle.sets.proofs.Laws.{has-insert, has-insert-same, has-insert-other}

-- ---- a word of a row gets another member

-- what a row has after b is put into its word z
pub row_keeps : (row : List ℕ) (z b v : ℕ) → z < length row → v ≡ insert b (get_or row z 0) → (x j : ℕ) → has j (get_or row x 0) ≡ true
    → has j (get_or (set row z v) x 0) ≡ true
row_keeps row z b v l e x j = set-each (λ (y w : ℕ). has j (get_or row y 0) ≡ true → has j w ≡ true) 0 row z v l
    (λ h. ap (has j) e ∙ has-insert j b (get_or row z 0) h) x (λ _ h. h)

pub row_has : (row : List ℕ) (z b v : ℕ) → z < length row → v ≡ insert b (get_or row z 0) → has b (get_or (set row z v) z 0) ≡ true
row_has row z b v l e = ap (has b) (get_or-set_same row z v 0 l ∙ e) ∙ has-insert-same b (get_or row z 0)

pub row-sound : (row : List ℕ) (z b v : ℕ) → z < length row → v ≡ insert b (get_or row z 0) → (x j : ℕ)
    → has j (get_or (set row z v) x 0) ≡ true → (has j (get_or row x 0) ≡ true) ⊎ ((j ≡ b) × (x ≡ z))
row-sound row z b v l e x j =
    set-each (λ (y w : ℕ). has j w ≡ true → (has j (get_or row y 0) ≡ true) ⊎ ((j ≡ b) × (y ≡ z))) 0 row z v l
    (λ h. dite (ℕ_discrete j b) (λ d. inr (d, refl))
    (λ d. inl (sym (has-insert-other j b (get_or row z 0) d) ∙ ap (has j) (sym e) ∙ h))) x (λ _ h. inl h)

-- ---- only if a test holds

module _ (row : List ℕ) (z b : ℕ) (l : z < length row) where
  -- the same word is stored again
  again : (x v : ℕ) → v ≡ get_or row z 0 → get_or (set row z v) x 0 ≡ get_or row x 0
  again x v e = rw e (ap (λ (y : List ℕ). get_or y x 0) (set-get_or row z 0))

  pub row-if-keeps : (t : Bool) (v : ℕ) → v ≡ cond t (insert b (get_or row z 0)) (get_or row z 0) → (x j : ℕ)
      → has j (get_or row x 0) ≡ true → has j (get_or (set row z v) x 0) ≡ true
  row-if-keeps true v e x j h = row_keeps row z b v l e x j h
  row-if-keeps false v e x j h = ap (has j) (again x v e) ∙ h

  pub row-if-has : (t : Bool) (v : ℕ) → v ≡ cond t (insert b (get_or row z 0)) (get_or row z 0) → t ≡ true
      → has b (get_or (set row z v) z 0) ≡ true
  row-if-has t v e f = row_has row z b v l (e ∙ ap (λ (y : Bool). cond y (insert b (get_or row z 0)) (get_or row z 0)) f)

  pub row-if-sound : (t : Bool) (v : ℕ) → v ≡ cond t (insert b (get_or row z 0)) (get_or row z 0) → (x j : ℕ)
      → has j (get_or (set row z v) x 0) ≡ true → (has j (get_or row x 0) ≡ true) ⊎ ((j ≡ b) × (x ≡ z) × (t ≡ true))
  row-if-sound true v e x j h = ⊎_elim (λ y. inl y) (λ y. inr (y.0, y.1, refl)) (row-sound row z b v l e x j h)
  row-if-sound false v e x j h = inl (ap (has j) (sym (again x v e)) ∙ h)
