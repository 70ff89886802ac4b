-- Each code of a set of forests is that of a first part followed by that of a rest, and the rest may depend on the first part's number of
-- nodes. First, next and last follow from those of the parts. Assumes nothing.
use Prim.Native.Nat.{ℕ, ◌*◌}
use mathlib.Core.List.{List, ◌++◌}
use mathlib.Core.Logic.{◌⊎◌, inl, inr, ⊎_elim, ⊎_map}
use mathlib.Core.Path.{◌≡◌, refl, sym, ap, ap₂, subst, ◌∙◌}
use native.Mathlib.Omega.{arith}
use lib.ListN.{length}
use Rattle.cfg.specs.Tree.{Forest, nodes, code}
use Rattle.cfg.specs.Derivation.{◌≺◌}
use Rattle.theory_listing.proofs.Order.{≺-asymmetric, ≺-append, ≺-after}
use Rattle.theory_listing.proofs.Unique.{length-code}
use Rattle.theory_enumeration.specs.Order.{Coded, Min, After, Last}
use Rattle.theory_enumeration.proofs.Compare.{Ordered, joined-cases}

-- a code of a first part and a rest
pub record Split (X : Forest → Type 0) (Y : ℕ → Forest → Type 0) (e : List ℕ) : Type 0 where
  pub first : Forest
  pub rest : Forest
  pub first-in : X first
  pub rest_in : Y (nodes first) rest
  pub coded : e ≡ code first ++ code rest

-- the codes of Z are those of a forest x of X followed by those of Y (nodes x)
pub record Joined (X : Forest → Type 0) (Y : ℕ → Forest → Type 0) (Z : Forest → Type 0) : Type 0 where
  pub join : (x y : Forest) → X x → Y (nodes x) y → Coded Z (code x ++ code y)
  pub split : (z : Forest) → Z z → Split X Y (code z)
  pub ordered : (x u : Forest) → X x → X u → Ordered x u

-- the nodes of a forest from the length of its code
pub coded-nodes : {P : Forest → Type 0} {e : List ℕ} {n : ℕ} (c : Coded P e) → length e ≡ 2 * n → nodes c.forest ≡ n
coded-nodes c l = omega (arith, length-code c.forest, ap length c.coded)

module _ {X Z : Forest → Type 0} {Y : ℕ → Forest → Type 0} (s : Joined X Y Z) where
  module _ {d : List ℕ} {n : ℕ} (c : Coded X d) (size : length d ≡ 2 * n) where
    -- what completes this first part is a rest for n nodes
    in_rest : (x y : Forest) → Y (nodes x) y → x ≡ c.forest → Y n y
    in_rest x y q e = subst (λ (m : ℕ). Y m y) (ap nodes e ∙ coded-nodes c size) q

    pub joined-coded : {e : List ℕ} → Coded (Y n) e → Coded Z (d ++ e)
    joined-coded {e} r =
        let j = s.join c.forest r.forest c.member (subst (λ (m : ℕ). Y m r.forest) (sym (coded-nodes c size)) r.member) in
        record { forest = j.forest; member = j.member; coded = j.coded ∙ ap₂ ◌++◌ c.coded r.coded }

    -- a code before d ++ a: its first part is before d, or is that of d, and then its rest is before a
    before-cases : (a : List ℕ) {e : List ℕ} (p : Split X Y e) → e ≺ d ++ a
        → (code p.first ≺ d) ⊎ (Y n p.rest × (code p.rest ≺ a))
    before-cases a p h =
        ⊎_map (λ k. k) (λ k. (in_rest p.first p.rest p.rest_in k.0, k.1))
        (joined-cases (code p.rest) a refl c.coded (s.ordered p.first c.forest p.first-in c.member) (rw p.coded at h))

    -- likewise for a code after d ++ a
    beyond-cases : (a : List ℕ) {e : List ℕ} (p : Split X Y e) → d ++ a ≺ e
        → (d ≺ code p.first) ⊎ (Y n p.rest × (a ≺ code p.rest))
    beyond-cases a p h =
        ⊎_map (λ k. k) (λ k. (in_rest p.first p.rest p.rest_in (sym k.0), k.1))
        (joined-cases a (code p.rest) c.coded refl (s.ordered c.forest p.first c.member p.first-in) (rw p.coded at h))

    -- the rest has a next code
    pub joined-rest : {a b : List ℕ} → After (Y n) a b → After Z (d ++ a) (d ++ b)
    joined-rest {a} {b} r = record {
      found = joined-coded r.found;
      beyond = ≺-after d r.beyond;
      nearest = λ z m u v. let p = s.split z m in none p u v (beyond-cases a p u) (before-cases b p v);
    }
      where
        none : {e : List ℕ} (p : Split X Y e) → d ++ a ≺ e → e ≺ d ++ b → (d ≺ code p.first) ⊎ (Y n p.rest × (a ≺ code p.rest))
            → (code p.first ≺ d) ⊎ (Y n p.rest × (code p.rest ≺ b)) → ⊥
        none p u v (inl h) k = ≺-asymmetric (rw p.coded at v) (≺-append h b (code p.rest))
        none p u v (inr h) (inl k) = ≺-asymmetric (rw p.coded at u) (≺-append k (code p.rest) a)
        none p u v (inr h) (inr k) = r.nearest p.rest h.0 h.1 k.1

    -- neither part has a next code
    pub joined-last : {a : List ℕ} → Last (Y n) a → Last X d → Last Z (d ++ a)
    joined-last {a} l m z q h =
        let p = s.split z q in
        ⊎_elim (m p.first p.first-in) (λ k. l p.rest k.0 k.1) (beyond-cases a p h)

  pub joined-first : {d e : List ℕ} {n : ℕ} → Min X d → length d ≡ 2 * n → Min (Y n) e → Min Z (d ++ e)
  joined-first {e = e} m size r = record {
    found = joined-coded m.found size r.found;
    least = λ z q h. let p = s.split z q in
        ⊎_elim (m.least p.first p.first-in) (λ k. r.least p.rest k.0 k.1) (before-cases m.found size e p h);
  }

  -- the rest is last, and the first part has a next code
  pub joined-child : {d e a b : List ℕ} {n m : ℕ} → Coded X d → length d ≡ 2 * n → Last (Y n) a → After X d e → length e ≡ 2 * m
      → Min (Y m) b → After Z (d ++ a) (e ++ b)
  joined-child {d} {e} {a} {b} {n} {m} c size l x size' r = record {
    found = joined-coded x.found size' r.found;
    beyond = ≺-append x.beyond a b;
    nearest = λ z q h k. let p = s.split z q in
        none p.first p.rest p.first-in (beyond-cases c size a p h) (before-cases x.found size' b p k);
  }
    where
      none : (t y : Forest) → X t → (d ≺ code t) ⊎ (Y n y × (a ≺ code y)) → (code t ≺ e) ⊎ (Y m y × (code y ≺ b)) → ⊥
      none t y i (inr h) k = l y h.0 h.1
      none t y i (inl h) (inl k) = x.nearest t i h k
      none t y i (inl h) (inr k) = r.least y k.0 k.1
