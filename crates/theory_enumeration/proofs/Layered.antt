-- A set of forests consists of numbered layers, and the codes of a layer are before those of all later layers. The first code is that of
-- the first layer that has one. The next code is in the same layer, or is the first of the next layer that has one. Assumes nothing.
use Prim.Native.Nat.{ℕ, ◌<◌}
use mathlib.Core.List.{List}
use mathlib.Core.Logic.{◌⊎◌, inl, inr, ⊎_elim, dite}
use mathlib.Core.Path.{◌≡◌, sym, subst}
use native.Mathlib.Decide.{dec_lt}
use native.Mathlib.Omega.{arith}
use Rattle.cfg.specs.Tree.{Forest, code}
use Rattle.cfg.specs.Derivation.{◌≺◌}
use Rattle.theory_listing.proofs.Order.{≺-asymmetric}
use Rattle.theory_enumeration.specs.Order.{Coded, NoForest, Min, After, Last}

-- the set P is made of the layers, in the order of their codes
pub record Layered (P : Forest → Type 0) (layer : ℕ → Forest → Type 0) : Type 0 where
  pub into : (i : ℕ) (t : Forest) → layer i t → P t
  pub out : (t : Forest) → P t → (i : ℕ) × layer i t
  pub sorted : (i j : ℕ) (t u : Forest) → i < j → layer i t → layer j u → code t ≺ code u

-- how two numbers compare
pub data Numbers (i j : ℕ) : Type 0 where
  below : i < j → Numbers i j
  equal : i ≡ j → Numbers i j
  above : j < i → Numbers i j

pub numbers : (i j : ℕ) → Numbers i j
numbers i j = dite (dec_lt i j) below (λ a. dite (dec_lt j i) above (λ b. equal (omega arith)))

module _ {P : Forest → Type 0} {layer : ℕ → Forest → Type 0} (s : Layered P layer) where
  module _ (i : ℕ) where
    pub layered-coded : {e : List ℕ} → Coded (layer i) e → Coded P e
    layered-coded c = record { forest = c.forest; member = s.into i c.forest c.member; coded = c.coded }

    -- forests in an earlier or a later layer than the code d
    before-later : {d : List ℕ} → Coded (layer i) d → (j : ℕ) (t : Forest) → i < j → layer j t → d ≺ code t
    before-later c j t l q = subst (λ x. x ≺ code t) c.coded (s.sorted i j c.forest t l c.member q)

    earlier-before : {d : List ℕ} → Coded (layer i) d → (j : ℕ) (t : Forest) → j < i → layer j t → code t ≺ d
    earlier-before c j t l q = subst (λ x. code t ≺ x) c.coded (s.sorted j i t c.forest l q c.member)

    pub layered-first : {e : List ℕ} → ((j : ℕ) → j < i → NoForest (layer j)) → Min (layer i) e → Min P e
    layered-first {e} n m = record {
      found = layered-coded m.found;
      least = λ t p h. go t h (s.out t p).0 (s.out t p).1 (numbers (s.out t p).0 i);
    }
      where
        go : (t : Forest) → code t ≺ e → (j : ℕ) → layer j t → Numbers j i → ⊥
        go t h j q (below l) = n j l t q
        go t h j q (equal x) = m.least t (subst (λ (y : ℕ). layer y t) x q) h
        go t h j q (above l) = ≺-asymmetric h (before-later m.found j t l q)

    module _ {d : List ℕ} (c : Coded (layer i) d) where
      -- what is after d is in the layer of d or in a later one
      beyond-cases : (t : Forest) → P t → d ≺ code t → layer i t ⊎ ((j : ℕ) × (i < j) × layer j t)
      beyond-cases t p h = go (s.out t p).0 (s.out t p).1 (numbers i (s.out t p).0)
        where
          go : (j : ℕ) → layer j t → Numbers i j → layer i t ⊎ ((n : ℕ) × (i < n) × layer n t)
          go j q (below l) = inr (j, l, q)
          go j q (equal x) = inl (subst (λ (y : ℕ). layer y t) (sym x) q)
          go j q (above l) = absurd (≺-asymmetric h (earlier-before c j t l q))

      pub layered-next : {e : List ℕ} → After (layer i) d e → After P d e
      layered-next a = record {
        found = layered-coded a.found;
        beyond = a.beyond;
        nearest = λ t p h k. ⊎_elim (λ q. a.nearest t q h k)
            (λ q. ≺-asymmetric k (before-later a.found q.0 t q.1 q.2)) (beyond-cases t p h);
      }

      pub layered-last : Last (layer i) d → ((j : ℕ) → i < j → NoForest (layer j)) → Last P d
      layered-last l n t p h = ⊎_elim (λ q. l t q h) (λ q. n q.0 q.1 t q.2) (beyond-cases t p h)

  -- the layer j is the next one that has a forest
  pub layered-later : (i j : ℕ) {d e : List ℕ} → Coded (layer i) d → Last (layer i) d → i < j
      → ((n : ℕ) → i < n → n < j → NoForest (layer n)) → Min (layer j) e → After P d e
  layered-later i j {d} {e} c l h n m = record {
    found = layered-coded j m.found;
    beyond = subst (λ x. d ≺ x) m.found.coded (before-later i c j m.found.forest h m.found.member);
    nearest = λ t p u v. ⊎_elim (λ q. l t q u)
        (λ q. later t v q.0 q.1 q.2 (numbers q.0 j)) (beyond-cases i c t p u);
  }
    where
      later : (t : Forest) → code t ≺ e → (a : ℕ) → i < a → layer a t → Numbers a j → ⊥
      later t v a u q (below x) = n a u x t q
      later t v a u q (equal x) = m.least t (subst (λ (y : ℕ). layer y t) x q) v
      later t v a u q (above x) = ≺-asymmetric v (before-later j m.found a t x q)
