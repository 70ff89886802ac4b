-- Entries of a fit table while they are written: one more place at one position, and two writes one after the other. Assumes nothing.
use Prim.Native.Nat.{ℕ, ◌+◌, ◌*◌, ◌<◌}
use mathlib.Core.Bool.{Bool, true, false}
use mathlib.Core.List.{List}
use mathlib.Core.Logic.{◌⊎◌, ⊎_elim}
use mathlib.Core.Path.{◌≡◌, refl, sym, ap, ◌∙◌}
use native.Mathlib.Decide.{ℕ_discrete}
use native.Mathlib.Omega.{arith}
use lib.ListN.{length, set, length-set}
use lib.Seq.{get_or-set_same, get_or-set_other}
use Rattle.sizes.specs.Sizes.{max_rules, max_places, max_input}
use Rattle.sets.specs.Set.{has, insert}
use Rattle.sets.proofs.Laws.{has-insert-same, has-insert-other, insert-below}
use Rattle.packed.specs.Packed.{symbol_in, fits_place}
use Rattle.packed_fit.specs.Fit.{fit_size, entry_in, fit_in, Asked, FitPut, At}

-- a byte with one of 8 members is a byte
module _ (q x n v : ℕ) (f : n ≡ x) (g : v ≡ insert q n) where
  pub byte_small : q < max_places → x < 256 → v < 256
  byte_small h l = omega (arith, g ∙ ap (insert q) f, insert-below 8 q x h l)

module _ (p w : List ℕ) where
  -- one write and then another of other entries; split says for each entry in which of the two it is
  pub put_then : (first second both : Asked) (t t' t'' : List ℕ) → FitPut p w first t t' → FitPut p w second t' t''
      → ((i r q : ℕ) → both i r q → (first i r q × (second i r q → ⊥)) ⊎ (second i r q × (first i r q → ⊥)))
      → ((i r q : ℕ) → first i r q → both i r q) → ((i r q : ℕ) → second i r q → both i r q) → FitPut p w both t t''
  put_then first second both t t' t'' a b split left right = record {
    long = b.long;
    here = λ i r q l m x e. ⊎_elim
        (λ y. b.other i r q l m y.1 ∙ a.here i r q l m y.0 e)
        (λ y. b.here i r q l m y.0 (a.other i r q l m y.1 ∙ e)) (split i r q x);
    other = λ i r q l m n. b.other i r q l m (λ x. n (right i r q x)) ∙ a.other i r q l m (λ x. n (left i r q x));
  }

  module _ (r q i : ℕ) (below : r < max_rules) (low : i < max_input) (t : List ℕ) (long : length t ≡ fit_size) where
    pub unfit : (b : Bool) → b ≡ fits_place w (symbol_in p r q) i → b ≡ false → FitPut p w (At i r q) t t
    unfit b e f = record {
      long = long;
      here = λ a s j l m x z. z ∙ sym f ∙ e ∙ rw (x.0, x.1, x.2);
      other = λ a s j l m n. refl;
    }

    module _ (v : ℕ) (b : Bool) (g : v ≡ insert q (entry_in t i r)) (e : b ≡ fits_place w (symbol_in p r q) i) (f : b ≡ true) where
      abbrev new : List ℕ
      new = set t (max_rules * i + r) v

      new-here : entry_in new i r ≡ v
      new-here = get_or-set_same t (max_rules * i + r) v 0 (omega arith)

      pub fitted : FitPut p w (At i r q) t new
      unfolding fit_in
      fitted = record {
        long = length-set t (max_rules * i + r) v ∙ long;
        here = λ a s j l m x _.
            rw (x.0, x.1, x.2) (ap (has q) (new-here ∙ g) ∙ has-insert-same q (entry_in t i r) ∙ sym f ∙ e);
        other = λ a s j. other a s j (ℕ_discrete (max_rules * a + s) (max_rules * i + r));
      }
        where
          other : (a s j : ℕ) → Dec (max_rules * a + s ≡ max_rules * i + r) → a < max_input → s < max_rules → (At i r q a s j → ⊥)
              → fit_in new a s j ≡ fit_in t a s j
          other a s j (yes d) l m n =
              let x : a ≡ i = omega arith in
              let y : s ≡ r = omega arith in
              rw (x, y) (ap (has j) (new-here ∙ g) ∙ has-insert-other j q (entry_in t i r) (λ z. n (x, y, z)))
          other a s j (no d) l m n = ap (has j) (get_or-set_other t (max_rules * i + r) (max_rules * a + s) v 0 d)
