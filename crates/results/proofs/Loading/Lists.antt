-- Lists in which one element is set: what holds of each element, and what comes after it. Assumes nothing.
use Prim.Native.Nat.{ℕ, zero, suc, ◌+◌, ◌-◌, ◌<◌}
use native.Mathlib.Omega.{arith}
use mathlib.Core.List.{List, [], ◌∷◌}
use mathlib.Core.Path.{◌≡◌, refl, sym, ap, ◌∙◌, subst}
use lib.ListN.{drop, get_or, set, replicate, get_or-replicate}
use lib.Seq.{drop-drop, drop-set-lt}

module _ {A : Type 0} where
  -- what holds of each element below n, and of the one that is set, holds after it is set
  pub set-each : (P : A → Type 0) (d : A) (n : ℕ) (l : List A) (i : ℕ) (v : A) → ((k : ℕ) → k < n → P (get_or l k d)) → P v
      → (k : ℕ) → k < n → P (get_or (set l i v) k d)
  set-each P d n [] i v h p k q = h k q
  set-each P d n (a ∷ l) zero v h p zero q = p
  set-each P d n (a ∷ l) zero v h p (suc k) q = h (suc k) q
  set-each P d n (a ∷ l) (suc i) v h p zero q = h zero q
  set-each P d zero (a ∷ l) (suc i) v h p (suc k) q = absurd (omega arith)
  set-each P d (suc n) (a ∷ l) (suc i) v h p (suc k) q = set-each P d n l i v (λ j m. h (suc j) (omega arith)) p k (omega arith)

  pub replicate-each : (P : A → Type 0) (d a : A) (n : ℕ) → P a → (k : ℕ) → k < n → P (get_or (replicate n a) k d)
  replicate-each P d a n p k h = subst P (sym (get_or-replicate n k a d h)) p

  drop-replicate : (a : A) (n : ℕ) → drop 1 (replicate n a) ≡ replicate (n - 1) a
  drop-replicate a zero = refl
  drop-replicate a (suc n) = let e : suc n - 1 ≡ n = omega arith in rw e

  -- if the elements from n to the end at m are all a, so are those from n + 1 on after element n is set
  pub drop-next : (l : List A) (n m : ℕ) (v a : A) → drop n l ≡ replicate (m - n) a
      → drop (n + 1) (set l n v) ≡ replicate (m - (n + 1)) a
  drop-next l n m v a h =
      let e : m - n - 1 ≡ m - (n + 1) = omega arith in
      drop-set-lt (n + 1) l n v (omega arith) ∙ sym (drop-drop 1 n l) ∙ ap (drop 1) h ∙ drop-replicate a (m - n)
      ∙ ap (λ (k : ℕ). replicate k a) e
