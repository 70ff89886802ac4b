-- A rising list has exactly the codes of a set of forests. The first code of the set is its head, and the code after d follows d. If there
-- is none, d is the last element. Assumes nothing.
use Prim.Native.Nat.{ℕ}
use mathlib.Core.List.Memᴰ
use mathlib.Core.List.{List, [], ◌∷◌, ◌++◌, Memᴰ}
use mathlib.Core.Path.{◌≡◌, refl, sym, ap, subst, ◌∙◌}
use Rattle.laws.proofs.Lists.{no_member}
use Rattle.cfg.specs.Tree.{Forest, code}
use Rattle.cfg.specs.Derivation.{◌≺◌}
use Rattle.theory_listing.proofs.Order.{≺-irreflexive, ≺-asymmetric}
use Rattle.theory_listing.proofs.Members.{Pairs, pairs-none, pairs-more}
use Rattle.theory_enumeration.specs.Order.{Coded, NoForest, Min, After, Last}

-- the members of the list are the codes of the set, each before all later ones
pub record Lists (P : Forest → Type 0) (l : List (List ℕ)) : Type 0 where
  pub sorted : Pairs ◌≺◌ l
  pub coded : (e : List ℕ) → Memᴰ e l → Coded P e
  pub listed : (t : Forest) → P t → Memᴰ (code t) l

-- ---- lists in order

-- a member with no member before it is the first
pub sorted-first : {l : List (List ℕ)} {e : List ℕ} → Pairs ◌≺◌ l → Memᴰ e l → ((f : List ℕ) → Memᴰ f l → f ≺ e → ⊥)
    → (m : List (List ℕ)) × (l ≡ e ∷ m)
sorted-first pairs-none i n = absurd (Memᴰ.not-nil i)
sorted-first (pairs-more {l = l} h p) (Memᴰ.head q) n = (l, ap (λ (x : List ℕ). x ∷ l) (sym q))
sorted-first {e = e} (pairs-more {a} h p) (Memᴰ.tail j) n = absurd (n a (Memᴰ.head refl) (h e j))

-- a member after d, with none between, follows d
pub sorted-next : {l : List (List ℕ)} {d e : List ℕ} → Pairs ◌≺◌ l → Memᴰ d l → Memᴰ e l → d ≺ e
    → ((f : List ℕ) → Memᴰ f l → d ≺ f → f ≺ e → ⊥) → (x y : List (List ℕ)) × (l ≡ x ++ d ∷ e ∷ y)
sorted-next pairs-none i j q n = absurd (Memᴰ.not-nil i)
sorted-next {e = e} (pairs-more h p) (Memᴰ.head s) (Memᴰ.head t) q n =
    absurd (≺-irreflexive e (subst (λ (x : List ℕ). x ≺ e) (s ∙ sym t) q))
sorted-next (pairs-more h p) (Memᴰ.head s) (Memᴰ.tail v) q n =
    let r = sorted-first p v (λ f k. n f (Memᴰ.tail k) (subst (λ (x : List ℕ). x ≺ f) (sym s) (h f k))) in
    ([], r.0, λ g. sym s g ∷ r.1 g)
sorted-next {d = d} (pairs-more h p) (Memᴰ.tail u) (Memᴰ.head t) q n =
    absurd (≺-asymmetric (h d u) (subst (λ (x : List ℕ). d ≺ x) t q))
sorted-next (pairs-more {a} h p) (Memᴰ.tail u) (Memᴰ.tail v) q n =
    let r = sorted-next p u v q (λ f k. n f (Memᴰ.tail k)) in
    (a ∷ r.0, r.1, ap (λ (x : List (List ℕ)). a ∷ x) r.2)

-- a member with none after it is the last
pub sorted-last : {l : List (List ℕ)} {d : List ℕ} → Pairs ◌≺◌ l → Memᴰ d l → ((f : List ℕ) → Memᴰ f l → d ≺ f → ⊥)
    → (x : List (List ℕ)) × (l ≡ x ++ d ∷ [])
sorted-last pairs-none i n = absurd (Memᴰ.not-nil i)
sorted-last (pairs-more {l = []} h p) (Memᴰ.head s) n = ([], λ g. sym s g ∷ [])
sorted-last (pairs-more {l = b ∷ m} h p) (Memᴰ.head s) n =
    absurd (n b (Memᴰ.tail (Memᴰ.head refl)) (subst (λ (x : List ℕ). x ≺ b) (sym s) (h b (Memᴰ.head refl))))
sorted-last (pairs-more {a} h p) (Memᴰ.tail u) n =
    let r = sorted-last p u (λ f k. n f (Memᴰ.tail k)) in
    (a ∷ r.0, ap (λ (x : List (List ℕ)). a ∷ x) r.1)

-- ---- lists of the codes of a set

module _ {P : Forest → Type 0} {l : List (List ℕ)} (L : Lists P l) where
  -- the code of a member of the set is in the list
  code-listed : {e : List ℕ} → Coded P e → Memᴰ e l
  code-listed c = Memᴰ.cast (sym c.coded) (L.listed c.forest c.member)

  -- what holds of no forest of the set holds of no member of the list
  never : (Q : List ℕ → Type 0) → ((t : Forest) → P t → Q (code t) → ⊥) → (f : List ℕ) → Memᴰ f l → Q f → ⊥
  never Q n f i q =
      let c = L.coded f i in
      n c.forest c.member (subst Q (sym c.coded) q)

  pub lists-first : {e : List ℕ} → Min P e → (m : List (List ℕ)) × (l ≡ e ∷ m)
  lists-first {e} m = sorted-first L.sorted (code-listed m.found) (never (λ f. f ≺ e) m.least)

  pub lists-none : NoForest P → l ≡ []
  lists-none n = no_member l (λ e i. let c = L.coded e i in n c.forest c.member)

  pub lists-next : {d e : List ℕ} → Memᴰ d l → After P d e → (x y : List (List ℕ)) × (l ≡ x ++ d ∷ e ∷ y)
  lists-next {d} {e} i a =
      sorted-next L.sorted i (code-listed a.found) a.beyond
      (λ f j p q. never (λ g. (d ≺ g) × (g ≺ e)) (λ t m z. a.nearest t m z.0 z.1) f j (p, q))

  pub lists-last : {d : List ℕ} → Memᴰ d l → Last P d → (x : List (List ℕ)) × (l ≡ x ++ d ∷ [])
  lists-last {d} i n = sorted-last L.sorted i (never (λ f. d ≺ f) n)
