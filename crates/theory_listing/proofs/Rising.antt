-- Rising lists: each element is before all later ones, and two rising lists with the same members are the same list. Assumes nothing.
use Prim.Native.Nat.{ℕ}
use mathlib.Core.List.Memᴰ
use mathlib.Core.List.{List, [], ◌∷◌, Memᴰ}
use mathlib.Core.Logic.{◌⊎◌, inl, inr, ◌↔◌}
use mathlib.Core.Path.{◌≡◌, refl, sym, ap₂, subst, ◌∙◌}
use Rattle.cfg.specs.Derivation.{◌≺◌, Rising, rising_none, rising_one, rising_more}
use Rattle.theory_listing.proofs.Order.{≺-transitive, ≺-different, ≺-asymmetric}
use Rattle.theory_listing.proofs.Members.{Pairs, pairs-none, pairs-more}

pub pairs→rising : {l : List (List ℕ)} → Pairs ◌≺◌ l → Rising l
pairs→rising pairs-none = rising_none
pairs→rising (pairs-more h pairs-none) = rising_one
pairs→rising (pairs-more h (pairs-more {a} k p)) = rising_more (h a (Memᴰ.head refl)) (pairs→rising (pairs-more k p))

-- one more element, before the first
pub pairs-before : {d e : List ℕ} {l : List (List ℕ)} → d ≺ e → Pairs ◌≺◌ (e ∷ l) → Pairs ◌≺◌ (d ∷ e ∷ l)
pairs-before {d} {e} {l} h (pairs-more k p) = pairs-more (λ b i. step b (Memᴰ.cases_cons i)) (pairs-more k p)
  where
    step : (b : List ℕ) → (b ≡ e) ⊎ Memᴰ b l → d ≺ b
    step b (inl q) = subst (λ x. d ≺ x) (sym q) h
    step b (inr i) = ≺-transitive h (k b i)

pub rising→pairs : {l : List (List ℕ)} → Rising l → Pairs ◌≺◌ l
rising→pairs rising_none = pairs-none
rising→pairs rising_one = pairs-more (λ b i. absurd (Memᴰ.not-nil i)) pairs-none
rising→pairs (rising_more h r) = pairs-before h (rising→pairs r)

-- a member that is not the first is one of the others
pub member-later : {A : Type 0} {a b : A} {l : List A} → (a ≡ b → ⊥) → Memᴰ a (b ∷ l) → Memᴰ a l
member-later h (Memᴰ.head e) = absurd (h e)
member-later h (Memᴰ.tail i) = i

-- two first elements are the same if each is the other one or comes after it
pub first-unique : {a b : List ℕ} {l m : List (List ℕ)} → ((e : List ℕ) → Memᴰ e l → a ≺ e) → ((e : List ℕ) → Memᴰ e m → b ≺ e)
    → (a ≡ b) ⊎ Memᴰ a m → (b ≡ a) ⊎ Memᴰ b l → a ≡ b
first-unique h k (inl e) _ = e
first-unique h k (inr i) (inl e) = sym e
first-unique {a} {b} h k (inr i) (inr j) = absurd (≺-asymmetric (h b j) (k a i))

pub pairs-unique : (l m : List (List ℕ)) → Pairs ◌≺◌ l → Pairs ◌≺◌ m → ((e : List ℕ) → Memᴰ e l ↔ Memᴰ e m) → l ≡ m
pairs-unique [] [] p q s = refl
pairs-unique [] (b ∷ m) p q s = absurd (Memᴰ.not-nil ((s b).1 (Memᴰ.head refl)))
pairs-unique (a ∷ l) [] p q s = absurd (Memᴰ.not-nil ((s a).0 (Memᴰ.head refl)))
pairs-unique (a ∷ l) (b ∷ m) (pairs-more h p) (pairs-more k q) s =
    let i = Memᴰ.cases_cons ((s a).0 (Memᴰ.head refl)) in
    let j = Memᴰ.cases_cons ((s b).1 (Memᴰ.head refl)) in
    let same : a ≡ b = first-unique h k i j in
    ap₂ ◌∷◌ same (pairs-unique l m p q λ e. (
      λ i. member-later (λ x. ≺-different (h e i) (same ∙ sym x)) ((s e).0 (Memᴰ.tail i)),
      λ j. member-later (λ x. ≺-different (k e j) (sym same ∙ sym x)) ((s e).1 (Memᴰ.tail j)),
    ))

pub rising-unique : (l m : List (List ℕ)) → Rising l → Rising m → ((e : List ℕ) → Memᴰ e l ↔ Memᴰ e m) → l ≡ m
rising-unique l m p q s = pairs-unique l m (rising→pairs p) (rising→pairs q) s
