-- The lowest number of a set is unique and depends only on the numbers below the cap, and a loop finds it as a running minimum.
-- Assumes nothing.
use Prim.Native.Nat.{ℕ, suc, ◌≤◌, ◌<◌, min}
use mathlib.Core.Logic.{◌⊎◌, inl, inr, ⊎_elim, dite}
use mathlib.Core.Path.{◌≡◌, subst}
use native.Mathlib.Decide.{dec_lt, ℕ_discrete}
use native.Mathlib.Omega.{arith}
use Rattle.sizes.specs.Sizes.{too_many}
use Rattle.theory_costs.specs.Lowest.{Lowest, NoNumber, Seen, seen_first, seen_at}

pub lowest-unique : {P : ℕ → Type 0} {u v : ℕ} → Lowest P u → Lowest P v → u ≡ v
lowest-unique {u = u} {v} L M = dite (dec_lt u v)
    (λ l. let h = M.below u (L.reached (omega arith)) in omega arith)
    (λ n. dite (dec_lt v u) (λ l. let h = L.below v (M.reached (omega arith)) in omega arith) (λ m. omega arith))

-- no number below the cap
pub lowest-none : {P : ℕ → Type 0} → ((u : ℕ) → P u → too_many ≤ u) → Lowest P too_many
lowest-none n = record { capped = omega arith; reached = λ l. absurd (omega arith); below = n }

-- one number, and no smaller one
pub lowest-at : {P : ℕ → Type 0} {v : ℕ} → v ≤ too_many → P v → ((u : ℕ) → P u → v ≤ u) → Lowest P v
lowest-at l p b = record { capped = l; reached = λ _. p; below = b }

-- the numbers of P below the cap are numbers of Q, and each of Q below the cap is at least one of P
pub lowest-same : {P Q : ℕ → Type 0} {v : ℕ} → ((u : ℕ) → u < too_many → P u → Q u)
    → ((u : ℕ) → u < too_many → Q u → (n : ℕ) × (n ≤ u) × P n) → Lowest P v → Lowest Q v
lowest-same {P} {Q} {v} f g L = record { capped = L.capped; reached = λ l. f v l (L.reached l); below = λ u q. go u q (dec_lt u too_many) }
  where
    go : (u : ℕ) → Q u → Dec (u < too_many) → v ≤ u
    go u q (yes l) = let (n, m, p) = g u l q in let h = L.below n p in omega arith
    go u q (no l) = omega arith

-- a lower bound of P that is itself in P if it is below the cap, capped
pub lowest-capped : {P : ℕ → Type 0} {x : ℕ} → (x < too_many → P x) → ((u : ℕ) → P u → x ≤ u) → Lowest P (min x too_many)
lowest-capped {P} {x} f g = record {
  capped = omega arith;
  reached = λ l. let e : x ≡ min x too_many = omega arith in subst P e (f (omega arith));
  below = λ u p. let h = g u p in omega arith;
}

-- ---- a loop's running minimum

pub seen_start : {B : ℕ → Type 0} {P : ℕ → ℕ → Type 0} {a v : ℕ} → Lowest B v → Lowest (Seen B P a a) v
seen_start {B} {P} {a} L = lowest-same (λ u _ p. seen_first p) (λ u _ q. (u, omega arith, go q)) L
  where
    go : {u : ℕ} → Seen B P a a u → B u
    go (seen_first p) = p
    go (seen_at c l m p) = absurd (omega arith)

pub seen_none : {P : ℕ → ℕ → Type 0} {a : ℕ} → Lowest (Seen NoNumber P a a) too_many
seen_none = seen_start (lowest-none λ u p. absurd p)

-- the numbers at one index more
seen-cases : {B : ℕ → Type 0} {P : ℕ → ℕ → Type 0} {a m u : ℕ} → Seen B P a (suc m) u → Seen B P a m u ⊎ P m u
seen-cases (seen_first p) = inl (seen_first p)
seen-cases {P = P} {m = m} {u} (seen_at c l h p) = dite (ℕ_discrete c m)
    (λ e. inr (subst (λ (x : ℕ). P x u) e p))
    (λ n. inl (seen_at c l (omega arith) p))

seen_wider : {B : ℕ → Type 0} {P : ℕ → ℕ → Type 0} {a m n u : ℕ} → m ≤ n → Seen B P a m u → Seen B P a n u
seen_wider k (seen_first p) = seen_first p
seen_wider k (seen_at c l h p) = seen_at c l (omega arith) p

-- indices at which every number is too many may be passed over
pub seen-pass : {B : ℕ → Type 0} {P : ℕ → ℕ → Type 0} {a m n v : ℕ} → m ≤ n → ((c u : ℕ) → m ≤ c → c < n → P c u → too_many ≤ u)
    → Lowest (Seen B P a m) v → Lowest (Seen B P a n) v
seen-pass {B} {P} {a} {m} {n} h f = lowest-same (λ u _ s. seen_wider h s) (λ u l s. (u, omega arith, narrower l s))
  where
    narrower : {u : ℕ} → u < too_many → Seen B P a n u → Seen B P a m u
    narrower l (seen_first p) = seen_first p
    narrower {u} l (seen_at c x y p) = dite (dec_lt c m)
        (λ z. seen_at c x z p)
        (λ z. absurd (omega (arith, f c u (omega arith) y p)))

module _ {B : ℕ → Type 0} {P : ℕ → ℕ → Type 0} {a m v x : ℕ} (h : a ≤ m) (L : Lowest (Seen B P a m) v)
    (reached : x < too_many → P m x) (below : (u : ℕ) → P m u → x ≤ u) where
  -- the next number is lower
  pub seen-take : x < v → Lowest (Seen B P a (suc m)) x
  seen-take l = record {
    capped = omega arith;
    reached = λ n. seen_at m h (omega arith) (reached n);
    below = λ u s. ⊎_elim (λ p. let q = L.below u p in omega arith) (below u) (seen-cases s);
  }

  -- the next number is not lower
  pub seen_skip : v ≤ x → Lowest (Seen B P a (suc m)) v
  seen_skip l = record {
    capped = L.capped;
    reached = λ n. seen_wider (omega arith) (L.reached n);
    below = λ u s. ⊎_elim (L.below u) (λ p. let q = below u p in omega arith) (seen-cases s);
  }

  -- the smaller of the two
  pub seen_step : {y : ℕ} → y ≡ min v x → Lowest (Seen B P a (suc m)) y
  seen_step {y} e = dite (dec_lt x v)
      (λ l. let q : x ≡ y = omega arith in subst (Lowest (Seen B P a (suc m))) q (seen-take l))
      (λ l. let q : v ≡ y = omega arith in subst (Lowest (Seen B P a (suc m))) q (seen_skip (omega arith)))
