-- The members of a filtered list; filtering keeps the order. Assumes nothing.
use mathlib.Core.Bool.{Bool, true, false}
use mathlib.Core.List.Memᴰ
use mathlib.Core.List.{List, [], ◌∷◌, Memᴰ}
use mathlib.Core.Path.{◌≡◌, refl, sym, ap, ◌∙◌}
use Rattle.theory_listing.specs.Budget.{filter}
use Rattle.theory_listing.proofs.Members.{Pairs, pairs-none, pairs-more}

pub filter-cases : {A : Type 0} (p : A → Bool) (l : List A) {a : A} → Memᴰ a (filter p l) → Memᴰ a l × (p a ≡ true)
unfolding filter
filter-cases p [] h = absurd (Memᴰ.not-nil h)
filter-cases {A} p (b ∷ l) {a} h = go (p b) refl h (λ i. filter-cases p l i)
  where
    go : (t : Bool) → p b ≡ t → Memᴰ a (elim t [ true ↦ b ∷ filter p l | false ↦ filter p l ])
        → (Memᴰ a (filter p l) → Memᴰ a l × (p a ≡ true)) → Memᴰ a (b ∷ l) × (p a ≡ true)
    go true e (Memᴰ.head q) later = (Memᴰ.head q, ap p q ∙ e)
    go true e (Memᴰ.tail i) later = let r = later i in (Memᴰ.tail r.0, r.1)
    go false e i later = let r = later i in (Memᴰ.tail r.0, r.1)

pub filter-member : {A : Type 0} (p : A → Bool) {a : A} {l : List A} → Memᴰ a l → p a ≡ true → Memᴰ a (filter p l)
unfolding filter
filter-member p (Memᴰ.head q) e = rw (sym (ap p q) ∙ e, filter) (Memᴰ.head q)
filter-member {A} p {a = a} (Memᴰ.tail {x} {xs} i) e = go (p x) (filter-member p i e)
  where
    go : (t : Bool) → Memᴰ a (filter p xs) → Memᴰ a (elim t [ true ↦ x ∷ filter p xs | false ↦ filter p xs ])
    go true z = Memᴰ.tail z
    go false z = z

pub pairs-filter : {A : Type 0} {R : A → A → Type 0} (p : A → Bool) {l : List A} → Pairs R l → Pairs R (filter p l)
unfolding filter
pairs-filter p pairs-none = pairs-none
pairs-filter {A} {R} p (pairs-more {a} {l} h q) = go (p a) (pairs-filter p q)
  where
    go : (t : Bool) → Pairs R (filter p l) → Pairs R (elim t [ true ↦ a ∷ filter p l | false ↦ filter p l ])
    go true z = pairs-more (λ b i. h b (filter-cases p l i).0) z
    go false z = z
