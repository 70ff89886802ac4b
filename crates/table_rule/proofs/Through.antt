-- The cost of a rule over a span that is not empty is a running minimum over its places. Assumes nothing.
use Prim.Native.Nat.{ℕ, zero, suc, ◌+◌, ◌≤◌, ◌<◌, min}
use mathlib.Core.Bool.{Bool, true, false}
use mathlib.Core.List.{List}
use mathlib.Core.Option.{some}
use mathlib.Core.Path.{◌≡◌, refl, sym, ap, subst, ◌∙◌}
use native.Mathlib.Omega.{arith}
use lib.ListN.{length}
use Rattle.sizes.specs.Sizes.{too_many}
use Rattle.cfg.specs.Grammar.{Symbol}
use Rattle.chart.specs.Cell.{Fit}
use Rattle.theory_costs.specs.Cut.{Cost}
use Rattle.theory_costs.specs.Lowest.{Lowest}
use Rattle.theory_costs.specs.Rule.{alone, Costs}
use Rattle.theory_costs.proofs.Lowest.{seen_start}
use Rattle.theory_costs.proofs.Rule.{rule-span, costs-step, costs-terminal}
use Rattle.packed.specs.Packed.{place_count, is_nonterminal_in, value_in, places_from, places_in}
use Rattle.packed.proofs.Fitting.{symbol-nonterminal, symbol-terminal}
use Rattle.table_layout.specs.Layout.{full_in, alone_in}
use Rattle.table_rule.specs.Rule.{RuleKnown, OfRule, PlacesBefore}
use Rattle.table_rule.proofs.Sums.{place_at, alone-terminal}

places-length : (p : List ℕ) (r n q : ℕ) → length (places_from p r q n) ≡ n
unfolding places_from
places-length p r zero q = refl
places-length p r (suc n) q = omega (arith, places-length p r n (suc q))

-- a rule has as many places as its count says
pub count-length : (p : List ℕ) (r : ℕ) → length (places_in p r) ≡ place_count p r
unfolding places_in
count-length p r = places-length p r (place_count p r) 0

-- what the code adds at a place
pub through_read : (full p : List ℕ) (r q x : ℕ) {k v y : ℕ} → k ≡ value_in p r q → v ≡ full_in full k → y ≡ min (x + v) too_many
    → y ≡ min (x + full_in full (value_in p r q)) too_many
through_read full p r q x {k} e f g = let c : full_in full k ≡ full_in full (value_in p r q) = ap (full_in full) e in omega arith

module _ {p : List ℕ} {r : ℕ} (full : List ℕ) {tables : List ℕ} {bare : ℕ} (fit : Fit) (empty : ℕ → ℕ) (least : Cost) (i j : ℕ)
    (K : RuleKnown fit empty least i j p r tables bare) {q v y z : ℕ}
    (h : q < place_count p r) (L : Lowest (Costs fit empty (full_in full) least (places_in p r) i j q) v)
    (f : y ≡ min (alone_in tables r q + full_in full (value_in p r q)) too_many) (g : z ≡ min v y) where
  one_place : (b : Bool) → is_nonterminal_in p r q ≡ b → Lowest (Costs fit empty (full_in full) least (places_in p r) i j (suc q)) z
  one_place true e =
      let a : alone_in tables r q ≡ alone empty (places_in p r) q = K.beside q h in
      let c = L.capped in
      costs-step L (place_at p r q h ∙ ap (λ (s : Symbol). some s) (symbol-nonterminal p r q e)) refl (omega arith)
  one_place false e =
      let a : alone_in tables r q ≡ alone empty (places_in p r) q = K.beside q h in
      let t : too_many ≡ alone empty (places_in p r) q = alone-terminal empty p r q refl h (sym e) refl in
      let c = L.capped in
      let d : v ≡ z = omega arith in
      subst (Lowest (Costs fit empty (full_in full) least (places_in p r) i j (suc q))) d
      (costs-terminal L (place_at p r q h ∙ ap (λ (s : Symbol). some s) (symbol-terminal p r q e)))

module _ {p : List ℕ} {r : ℕ} {full tables : List ℕ} {bare : ℕ} where
  pub through-start : PlacesBefore p r full tables bare 0 bare
  through-start = record { lowest = λ fit empty least i j K. seen_start K.without }

  pub through-step : {m q v y z : ℕ} → m ≡ place_count p r → q < m → PlacesBefore p r full tables bare q v
      → y ≡ min (alone_in tables r q + full_in full (value_in p r q)) too_many → z ≡ min v y → PlacesBefore p r full tables bare (q + 1) z
  through-step {m} {q} e h S f g = record {
    lowest = λ fit empty least i j K.
        let d : q + 1 ≡ suc q = omega arith in
        rw d (one_place full fit empty least i j K (omega arith) (S.lowest fit empty least i j K) f g (is_nonterminal_in p r q) refl);
  }

  pub through-end : {m q v : ℕ} → m ≡ place_count p r → q ≤ m → m ≤ q → PlacesBefore p r full tables bare q v → OfRule p r full tables bare v
  through-end {m} {q} {v} e h l S = record {
    exact = λ fit empty least i j K.
        let d : q ≡ length (places_in p r) = omega (arith, count-length p r) in
        rule-span fit (full_in full) least (places_in p r) K.span K.start K.stop (rw d at (S.lowest fit empty least i j K));
  }
