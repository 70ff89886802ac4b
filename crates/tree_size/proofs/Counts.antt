-- Counting the nonterminals of a rule, place by place. Assumes nothing.
use Prim.Native.Nat.{ℕ, ◌+◌, ◌-◌, ◌≤◌, ◌<◌}
use mathlib.Core.Bool.{Bool, true, false}
use mathlib.Core.List.{List}
use mathlib.Core.Path.{◌≡◌, sym, ap, ◌∙◌}
use native.Mathlib.Numerals.{add-one}
use native.Mathlib.Omega.{arith}
use Rattle.packed.specs.Packed.{place_count, is_nonterminal_in, symbol_in, places_from}
use Rattle.packed.proofs.Laws.{places-start, places-step, places-end}
use Rattle.packed.proofs.Fitting.{symbol-nonterminal, symbol-terminal}
use Rattle.tree_size.specs.Standing.{child_of, children_of, children_in}

module _ (p : List ℕ) (r q : ℕ) (b : Bool) (e : b ≡ is_nonterminal_in p r q) where
  pub child-nonterminal : b ≡ true → 1 ≡ child_of (symbol_in p r q)
  unfolding child_of
  child-nonterminal t = sym (ap child_of (symbol-nonterminal p r q (sym e ∙ t)))

  pub child-terminal : b ≡ false → 0 ≡ child_of (symbol_in p r q)
  unfolding child_of
  child-terminal t = sym (ap child_of (symbol-terminal p r q (sym e ∙ t)))

-- n is the number of nonterminals among the places of rule r before place q
pub record Counted (p : List ℕ) (r q n : ℕ) : Type 0 where
  pub sum : n + children_of (places_from p r q (place_count p r - q)) ≡ children_in p r

module _ {p : List ℕ} {r : ℕ} where
  pub counted_start : Counted p r 0 0
  counted_start = record { sum = omega (arith, ap children_of (places-start p r)) }

  pub counted_step : {q n x count : ℕ} → count ≡ place_count p r → q < count → x ≡ child_of (symbol_in p r q) → Counted p r q n
      → Counted p r (q + 1) (n + x)
  unfolding children_of
  counted_step {q} {n} {x} c h e S = record {
    sum = rw add-one (omega (arith, ap children_of (places-step p r q (omega arith)), S.sum));
  }

  pub counted-end : {q n count : ℕ} → count ≡ place_count p r → count ≤ q → Counted p r q n → n ≡ children_in p r
  unfolding children_of
  counted-end {q} {n} c h S = omega (arith, ap children_of (places-end p r q (omega arith)), S.sum)
