-- What holds below a number, lists without members and of zeros, and a list of which one element is set. Assumes nothing.
use Prim.Native.Nat.{ℕ, zero, suc, ◌+◌, ◌<◌}
use mathlib.Core.List.{List, [], ◌∷◌, Memᴰ}
use mathlib.Core.Logic.{◌≢◌, dite}
use mathlib.Core.Path.{◌≡◌, refl, sym, subst}
use native.Mathlib.Decide.{ℕ_discrete}
use native.Mathlib.Omega.{arith}
use lib.ListN.{length, get_or, set, replicate}
use lib.Seq.{get_or-set_same, get_or-set_other}

-- what holds below m, and of m, holds below m + 1
pub below_step : (P : ℕ → Type 0) (m : ℕ) → ((x : ℕ) → x < m → P x) → P m → (x : ℕ) → x < m + 1 → P x
below_step P m f new x h = dite (ℕ_discrete x m) (λ e. subst P (sym e) new) (λ e. let n : x ≢ m = e in f x (omega arith))

pub no_member : {A : Type 0} (l : List A) → ((e : A) → Memᴰ e l → ⊥) → l ≡ []
no_member [] f = refl
no_member (a ∷ l) f = absurd (f a (Memᴰ.head refl))

-- each element is zero, also a read past the end
pub zeros-at : (m y : ℕ) → ◌≡◌ {A = ℕ} (get_or (replicate m 0) y 0) 0
zeros-at zero y = refl
zeros-at (suc m) zero = refl
zeros-at (suc m) (suc y) = zeros-at m y

module _ {A : Type 0} (P : ℕ → A → Type 0) (d : A) (l : List A) (m : ℕ) (v : A) (h : m < length l) (new : P m v) where
  -- after element m is set, P holds of each element: of the new one, and of any other if it held before
  pub set-each : (x : ℕ) → (x ≢ m → P x (get_or l x d)) → P x (get_or (set l m v) x d)
  set-each x f = dite (ℕ_discrete x m)
      (λ e. rw e (subst (P m) (sym (get_or-set_same l m v d h)) new))
      (λ e. subst (P x) (sym (get_or-set_other l m x v d e)) (f e))

  -- if it held of each element below m, it now holds of each below m + 1
  pub set_below : ((x : ℕ) → x < m → P x (get_or l x d)) → (x : ℕ) → x < m + 1 → P x (get_or (set l m v) x d)
  set_below f x k = set-each x (λ e. let n : x ≢ m = e in f x (omega arith))
