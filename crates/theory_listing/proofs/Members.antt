-- Members of the lists that `over`, `when` and `map` give, and lists in which each element is related to all later ones. Assumes nothing.
use Prim.Native.Nat.{ℕ}
use mathlib.Core.Bool.{Bool, true, false, false≢true}
use mathlib.Core.List.Memᴰ
use mathlib.Core.List.{List, [], ◌∷◌, ◌++◌, map, Memᴰ}
use mathlib.Core.Logic.{◌⊎◌, inl, inr}
use mathlib.Core.Path.{◌≡◌, refl, sym, ap, subst}
use Rattle.cfg.specs.Listing.{over, when}

-- a member of a list of images
pub map_cases : {A B : Type 0} (f : A → B) (l : List A) {b : B} → Memᴰ b (map f l) → (a : A) × Memᴰ a l × (b ≡ f a)
map_cases f [] h = absurd (Memᴰ.not-nil h)
map_cases f (a ∷ l) (Memᴰ.head e) = (a, Memᴰ.head refl, e)
map_cases f (a ∷ l) (Memᴰ.tail h) = let r = map_cases f l h in (r.0, Memᴰ.tail r.1, r.2)

pub map-member : {A B : Type 0} (f : A → B) {a : A} {l : List A} → Memᴰ a l → Memᴰ (f a) (map f l)
map-member f (Memᴰ.head e) = Memᴰ.head (ap f e)
map-member f (Memᴰ.tail h) = Memᴰ.tail (map-member f h)

pub over-cases : {A : Type 0} (l : List A) (f : A → List (List ℕ)) {e : List ℕ} → Memᴰ e (over l f)
    → (a : A) × Memᴰ a l × Memᴰ e (f a)
unfolding over
over-cases [] f h = absurd (Memᴰ.not-nil h)
over-cases {A} (a ∷ l) f {e} h = step (λ k. over-cases l f k) (Memᴰ.append_cases (f a) h)
  where
    step : (Memᴰ e (over l f) → (b : A) × Memᴰ b l × Memᴰ e (f b)) → Memᴰ e (f a) ⊎ Memᴰ e (over l f)
        → (b : A) × Memᴰ b (a ∷ l) × Memᴰ e (f b)
    step later (inl k) = (a, Memᴰ.head refl, k)
    step later (inr k) = let r = later k in (r.0, Memᴰ.tail r.1, r.2)

pub over-member : {A : Type 0} {a : A} {l : List A} (f : A → List (List ℕ)) {e : List ℕ} → Memᴰ a l → Memᴰ e (f a)
    → Memᴰ e (over l f)
unfolding over
over-member {l = []} f h k = absurd (Memᴰ.not-nil h)
over-member {l = b ∷ l} f {e = e} (Memᴰ.head q) k = Memᴰ.append_left (over l f) (subst (λ c. Memᴰ e (f c)) q k)
over-member {l = b ∷ l} f (Memᴰ.tail h) k = Memᴰ.append_right (f b) (over-member f h k)

pub when-cases : (t : Bool) (f : Unit {0} → List (List ℕ)) {e : List ℕ} → Memᴰ e (when t f) → (t ≡ true) × Memᴰ e (f tt)
unfolding when
when-cases true f h = (refl, h)
when-cases false f h = absurd (Memᴰ.not-nil h)

pub when-member : (t : Bool) (f : Unit {0} → List (List ℕ)) {e : List ℕ} → t ≡ true → Memᴰ e (f tt) → Memᴰ e (when t f)
unfolding when
when-member true f q h = h
when-member false f q h = absurd (false≢true q)

-- every element of the list is related to every later one
pub data Pairs {A : Type 0} (R : A → A → Type 0) : List A → Type 0 where
  pairs-none : Pairs R []
  pairs-more : {a : A} {l : List A} → ((b : A) → Memᴰ b l → R a b) → Pairs R l → Pairs R (a ∷ l)

pub pairs-append : {A : Type 0} {R : A → A → Type 0} {l m : List A} → Pairs R l → Pairs R m
    → ((a b : A) → Memᴰ a l → Memᴰ b m → R a b) → Pairs R (l ++ m)
pairs-append pairs-none q h = q
pairs-append {A} {R} {m = m} (pairs-more {a} {l} k p) q h =
    pairs-more (λ b i. step b (Memᴰ.append_cases l i)) (pairs-append p q (λ c b i j. h c b (Memᴰ.tail i) j))
  where
    step : (b : A) → Memᴰ b l ⊎ Memᴰ b m → R a b
    step b (inl i) = k b i
    step b (inr i) = h a b (Memᴰ.head refl) i

pub pairs-map : {A B : Type 0} {R : A → A → Type 0} {S : B → B → Type 0} (f : A → B) → ((a b : A) → R a b → S (f a) (f b))
    → {l : List A} → Pairs R l → Pairs S (map f l)
pairs-map f h pairs-none = pairs-none
pairs-map {S = S} f h (pairs-more {a} {l} k p) =
    pairs-more (λ b i. let r = map_cases f l i in subst (λ c. S (f a) c) (sym r.2) (h a r.0 (k r.0 r.1)))
    (pairs-map f h p)

-- lists in order, one after the other, are in order if each member comes before all members of later lists
pub pairs-over : {A : Type 0} {R : A → A → Type 0} {S : List ℕ → List ℕ → Type 0} (f : A → List (List ℕ)) → ((a : A) → Pairs S (f a))
    → ((a b : A) → R a b → (d e : List ℕ) → Memᴰ d (f a) → Memᴰ e (f b) → S d e)
    → {l : List A} → Pairs R l → Pairs S (over l f)
unfolding over
pairs-over f each h pairs-none = pairs-none
pairs-over f each h (pairs-more {a} {l} k p) = pairs-append (each a) (pairs-over f each h p)
    (λ d e i j. let r = over-cases l f j in h a r.0 (k r.0 r.1) d e i r.2)

pub pairs-when : {S : List ℕ → List ℕ → Type 0} (t : Bool) (f : Unit {0} → List (List ℕ)) → Pairs S (f tt) → Pairs S (when t f)
unfolding when
pairs-when true f p = p
pairs-when false f p = pairs-none
