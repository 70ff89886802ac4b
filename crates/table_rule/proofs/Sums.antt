-- The cost of a rule's places over no byte, by the tests that the code makes: one place, all as a running sum, all but one.
-- Assumes nothing.
use Prim.Native.Nat.{ℕ, zero, suc, ◌+◌, ◌-◌, ◌≤◌, ◌<◌, min}
use mathlib.Core.Bool.{Bool, true, false}
use mathlib.Core.List.{List, [], ◌∷◌}
use mathlib.Core.Option.{none, some}
use mathlib.Core.Path.{◌≡◌, refl, sym, ap, ◌∙◌}
use native.Mathlib.Numerals.{add-one}
use native.Mathlib.Omega.{arith}
use lib.ListN.{get_elem?}
use Rattle.sizes.specs.Sizes.{too_many}
use Rattle.laws.proofs.Bools.{clash}
use Rattle.cfg.specs.Grammar.{Symbol, nonterminal, terminal}
use Rattle.theory_costs.specs.Rule.{single, together, others, alone}
use Rattle.theory_costs.proofs.Rule.{others-total}
use Rattle.packed.specs.Packed.{place_count, is_nonterminal_in, value_in, symbol_in, places_from, places_in}
use Rattle.packed.proofs.Laws.{places-step, places-end, places-start}
use Rattle.packed.proofs.Fitting.{symbol-nonterminal, symbol-terminal}

-- ---- one place

module _ (cost : ℕ → ℕ) (p : List ℕ) (r q : ℕ) {b : Bool} (e : b ≡ is_nonterminal_in p r q) where
  pub single-nonterminal : {k v n : ℕ} → b ≡ true → k ≡ value_in p r q → v ≡ cost k → n ≡ v → n ≡ single cost (symbol_in p r q)
  unfolding single
  single-nonterminal t f g h = h ∙ g ∙ ap cost f ∙ sym (ap (single cost) (symbol-nonterminal p r q (sym e ∙ t)))

  pub single-terminal : b ≡ false → too_many ≡ single cost (symbol_in p r q)
  unfolding single
  single-terminal t = sym (ap (single cost) (symbol-terminal p r q (sym e ∙ t)))

-- ---- all of them

-- `sum` and the cost of the places from q on make the cost of all places
pub record Summed (cost : ℕ → ℕ) (p : List ℕ) (r q sum : ℕ) : Type 0 where
  pub all : sum + together cost (places_from p r q (place_count p r - q)) ≡ together cost (places_in p r)

module _ {cost : ℕ → ℕ} {p : List ℕ} {r : ℕ} where
  pub summed-start : Summed cost p r 0 0
  summed-start = record { all = omega (arith, ap (together cost) (places-start p r)) }

  pub summed-step : {m q sum n : ℕ} → m ≡ place_count p r → q < m → Summed cost p r q sum → n ≡ single cost (symbol_in p r q)
      → Summed cost p r (q + 1) (sum + n)
  unfolding together
  summed-step {q = q} d h S e = rw add-one (record { all = omega (arith, S.all, ap (together cost) (places-step p r q (omega arith))) })

  pub summed-end : {m q sum : ℕ} → m ≡ place_count p r → m ≤ q → Summed cost p r q sum → sum ≡ together cost (places_in p r)
  unfolding together
  summed-end {q = q} d h S = omega (arith, S.all, ap (together cost) (places-end p r q (omega arith)))

-- ---- all but one

places-at : (p : List ℕ) (r n a q : ℕ) → q < n → get_elem? (places_from p r a n) q ≡ some (symbol_in p r (a + q))
unfolding places_from
places-at p r zero a q h = absurd (omega arith)
places-at p r (suc n) a zero h =
    let e : a ≡ a + 0 = omega arith in
    ap (λ (x : ℕ). some (symbol_in p r x)) e
places-at p r (suc n) a (suc q) h =
    let e : suc a + q ≡ a + suc q = omega arith in
    places-at p r n (suc a) q (omega arith) ∙ ap (λ (x : ℕ). some (symbol_in p r x)) e

places-past : (p : List ℕ) (r n a q : ℕ) → n ≤ q → get_elem? (places_from p r a n) q ≡ none
unfolding places_from
places-past p r zero a q h = refl
places-past p r (suc n) a zero h = absurd (omega arith)
places-past p r (suc n) a (suc q) h = places-past p r n (suc a) q (omega arith)

-- the symbol in place q of a rule
pub place_at : (p : List ℕ) (r q : ℕ) → q < place_count p r → get_elem? (places_in p r) q ≡ some (symbol_in p r q)
unfolding places_in
place_at p r q h =
    let e : 0 + q ≡ q = omega arith in
    places-at p r (place_count p r) 0 q h ∙ ap (λ (x : ℕ). some (symbol_in p r x)) e

pub place-past : (p : List ℕ) (r q : ℕ) → place_count p r ≤ q → get_elem? (places_in p r) q ≡ none
unfolding places_in
place-past p r q h = places-past p r (place_count p r) 0 q h

-- a place without a nonterminal has no child over the whole span
others-none : (cost : ℕ → ℕ) (places : List Symbol) (q : ℕ) → ((k : ℕ) → get_elem? places q ≡ some (nonterminal k) → ⊥)
    → too_many ≤ others cost places q
unfolding others
others-none cost [] q f = omega arith
others-none cost (nonterminal k ∷ places) zero f = absurd (f k refl)
others-none cost (terminal t ∷ places) zero f = omega arith
others-none cost (nonterminal k ∷ places) (suc q) f = omega (arith, others-none cost places q f)
others-none cost (terminal t ∷ places) (suc q) f = omega (arith, others-none cost places q f)

module _ (cost : ℕ → ℕ) (p : List ℕ) (r q : ℕ) where
  pub alone-past : {n : ℕ} → n ≡ place_count p r → n ≤ q → too_many ≡ alone cost (places_in p r) q
  unfolding alone
  alone-past e h =
      let y = place-past p r q (omega arith) in
      omega (arith, others-none cost (places_in p r) q (λ k x. clash cc))

  module _ {n : ℕ} {b : Bool} (l : n ≡ place_count p r) (h : q < n) (e : b ≡ is_nonterminal_in p r q) where
    pub alone-terminal : b ≡ false → too_many ≡ alone cost (places_in p r) q
    unfolding alone
    alone-terminal t =
        let y = place_at p r q (omega arith) in
        let z = symbol-terminal p r q (sym e ∙ t) in
        omega (arith, others-none cost (places_in p r) q (λ k x. clash cc))

    -- the cost of place q is part of the cost of all places
    own-total : b ≡ true → others cost (places_in p r) q + cost (value_in p r q) ≡ together cost (places_in p r)
    own-total t = others-total cost (places_in p r) q
        (place_at p r q (omega arith) ∙ ap (λ (s : Symbol). some s) (symbol-nonterminal p r q (sym e ∙ t)))

    module _ {k v own sum : ℕ} (t : b ≡ true) (f : k ≡ value_in p r q) (g : v ≡ cost k) (o : own ≡ v)
        (s : sum ≡ together cost (places_in p r)) where
      pub own-within : own ≤ sum
      own-within = let c : cost k ≡ cost (value_in p r q) = ap cost f in omega (arith, own-total t)

      pub alone-nonterminal : {y : ℕ} → y ≡ min (suc (sum - own)) too_many → y ≡ alone cost (places_in p r) q
      unfolding alone
      alone-nonterminal y = let c : cost k ≡ cost (value_in p r q) = ap cost f in omega (arith, own-total t)
