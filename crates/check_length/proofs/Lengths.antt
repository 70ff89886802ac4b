-- The sum of the rule lengths, node by node, in signed numbers of 32 bits. Assumes nothing.
use Prim.Native.Nat.{ℕ, zero, suc, ◌+◌, ◌*◌, ◌/◌, ◌≤◌, ◌<◌, min}
use mathlib.Core.List.{List, [], ◌∷◌, ◌++◌, map}
use mathlib.Core.Path.{◌≡◌, refl, sym, ap, ap₂, subst, ◌∙◌}
use native.Mathlib.Omega.{arith}
use lib.IntN.{ℤ, pos, ◌+ℤ◌, +ℤ_assoc, +ℤ_idr}
use lib.ListN.{length, get_or, drop, take, set, length-drop, length-map, get_or-eq_default}
use lib.Seq.{take_all, take-suc, take-suc-set}
use lib.Signed.{mag}
use mir.Syntax.{w16, w32}
use mir.Val.{to_z, of_z, SFits}
use mir.Facts.{to_z-of_z, sfits_widen}
use Rattle.sizes.specs.Sizes.{max_rules, max_nodes}
use Rattle.grammar.specs.declared.Grammar.{Grammar}
use Rattle.grammar.specs.declared.Rule.{Rule}
use Rattle.grammar.specs.View.{lengths_of}
use Rattle.grammar.specs.Zero.{no_rule}
use Rattle.results.specs.Measure.{sum, rounded, tenths_of}
use Rattle.check_length.specs.Measure.{length_of_rule, lengths_in}
use Rattle.check_walk.proofs.Nodes.{at-two}
use Rattle.numbers.proofs.Signs.{through}
use Rattle.check_length.proofs.Signed.{sum-size}

-- ---- one length more

module _ (z s : ℤ) (i : ℕ) (little : mag z < 32768) (small : mag s ≤ 32768 * i) where
  pub more-size : mag (s +ℤ z) ≤ 32768 * (i + 1)
  more-size = omega (arith, sum-size s z)

  -- y is the length as it is added, in 32 bits
  pub added : (y s' : ℤ) → i < max_nodes → y ≡ to_z w16 (of_z w16 z) → s' ≡ to_z w32 (of_z w32 (s +ℤ to_z w32 (of_z w32 y))) → s' ≡ s +ℤ z
  added y s' h e d =
      let same : y ≡ z = e ∙ to_z-of_z {w = w16} {z = z} (record { sfits = little }) in
      d ∙ ap (λ (x : ℤ). to_z w32 (of_z w32 (s +ℤ to_z w32 (of_z w32 x)))) same
      ∙ ap (λ (x : ℤ). to_z w32 (of_z w32 (s +ℤ x))) (through z (omega arith))
      ∙ through (s +ℤ z) (omega (arith, more-size))

-- a length of 16 bits fits 32 bits
pub wide_fits : (z : ℤ) → SFits w16 z → SFits w32 (to_z w16 (of_z w16 z))
wide_fits z fits = subst (SFits w32) (sym (to_z-of_z fits)) (sfits_widen tt fits)

-- ---- the sum

-- s and the lengths of the nodes from i on make the whole sum, and s is at most 32768 for each node before i
pub record SumTo (length_at : ℕ → ℤ) (e : List ℕ) (i : ℕ) (s : ℤ) : Type 0 where
  pub whole : s +ℤ sum length_at (drop (2 * i) e) ≡ sum length_at e
  pub small : mag s ≤ 32768 * i

module _ (length_at : ℕ → ℤ) (e : List ℕ) where
  sum_step : (i r : ℕ) → i < length e / 2 → r ≡ get_or e (2 * i + 1) 0
      → sum length_at (drop (2 * i) e) ≡ length_at r +ℤ sum length_at (drop (2 * (i + 1)) e)
  unfolding sum
  sum_step i r h q =
      let j : 2 * i + 2 ≡ 2 * (i + 1) = omega arith in
      ap (sum length_at) (at-two e (2 * i) (get_or e (2 * i) 0) r (omega arith) refl (sym q))
      ∙ ap (λ (k : ℕ). length_at r +ℤ sum length_at (drop k e)) j

  -- at most one number is left, which is no node
  sum-end : (i : ℕ) → length e / 2 ≤ i → sum length_at (drop (2 * i) e) ≡ pos 0
  unfolding sum
  sum-end i h = go (drop (2 * i) e) (omega (arith, length-drop (2 * i) e))
    where
      go : (l : List ℕ) → length l ≤ 1 → sum length_at l ≡ pos 0
      go [] k = refl
      go (a ∷ []) k = refl
      go (a ∷ b ∷ l) k = absurd (omega arith)

  module _ {i r : ℕ} {s : ℤ} (h : i < length e / 2) (number : r ≡ min (get_or e (2 * i + 1) 0) max_rules) (so_far : SumTo length_at e i s) where
    next : (q : ℕ) → q ≡ get_or e (2 * i + 1) 0 → mag (length_at q) < 32768 → SumTo length_at e (i + 1) (s +ℤ length_at q)
    next q k little = record {
      whole =
          +ℤ_assoc s (length_at q) (sum length_at (drop (2 * (i + 1)) e))
          ∙ ap (λ (x : ℤ). s +ℤ x) (sym (sum_step i q h k))
          ∙ so_far.whole;
      small = more-size (length_at q) s i little so_far.small;
    }

    pub next-rule : (s' : ℤ) → r < max_rules → mag (length_at r) < 32768 → s' ≡ s +ℤ length_at r → SumTo length_at e (i + 1) s'
    next-rule s' low little d = rw d (next r (omega arith) little)

    pub next-none : ((q : ℕ) → max_rules ≤ q → length_at q ≡ pos 0) → max_rules ≤ r → SumTo length_at e (i + 1) s
    next-none beyond high =
        let q = get_or e (2 * i + 1) 0 in
        let none : length_at q ≡ pos 0 = beyond q (omega arith) in
        let same : s +ℤ length_at q ≡ s = ap (λ (x : ℤ). s +ℤ x) none ∙ +ℤ_idr s in
        subst (SumTo length_at e (i + 1)) same (next q refl (rw none (omega arith)))

  pub sum_done : {i : ℕ} {s : ℤ} → length e / 2 ≤ i → SumTo length_at e i s → s ≡ sum length_at e
  sum_done {i} {s} h d = sym (+ℤ_idr s) ∙ ap (λ (x : ℤ). s +ℤ x) (sym (sum-end i h)) ∙ d.whole

-- ---- a row of lengths

-- past its end the length is 0
pub lengths-beyond : (l : List ℤ) → length l ≡ max_rules → (q : ℕ) → max_rules ≤ q → lengths_in l q ≡ pos 0
lengths-beyond l full q h = get_or-eq_default l (pos 0) {n = q} (omega arith)

mapped : (rules : List Rule) (r : ℕ) → get_or (map length_of_rule rules) r (pos 0) ≡ (get_or rules r no_rule).length
mapped [] r = refl
mapped (ρ ∷ rules) zero = refl
mapped (ρ ∷ rules) (suc r) = mapped rules r

-- one more length is written
pub lengths-step : (l : List ℤ) (rules : List Rule) (r : ℕ) → r < length l → r < length rules
    → take r l ≡ take r (map length_of_rule rules)
    → take (r + 1) (set l r (get_or rules r no_rule).length) ≡ take (r + 1) (map length_of_rule rules)
lengths-step l rules r h k e =
    let n : r + 1 ≡ suc r = omega arith in
    let m : r < length (map length_of_rule rules) = omega (arith, length-map rules length_of_rule) in
    rw n (take-suc-set l r (get_or rules r no_rule).length h
    ∙ ap (λ (x : List ℤ). x ++ ((get_or rules r no_rule).length ∷ [])) e
    ∙ ap (λ (z : ℤ). take r (map length_of_rule rules) ++ (z ∷ [])) (sym (mapped rules r))
    ∙ sym (take-suc (map length_of_rule rules) r (pos 0) m))

-- the sum by the row is the sum by the grammar
sum_row : (g : Grammar) (l : List ℤ) → l ≡ map length_of_rule g.rules → (e : List ℕ) → sum (lengths_in l) e ≡ sum (lengths_of g) e
unfolding sum
sum_row g l h [] = refl
sum_row g l h (cover ∷ []) = refl
sum_row g l h (cover ∷ r ∷ e) = ap₂ ◌+ℤ◌ (ap (λ (x : List ℤ). lengths_in x r) h ∙ mapped g.rules r) (sum_row g l h e)

pub tenths-row : (g : Grammar) (l : List ℤ) → l ≡ map length_of_rule g.rules → (e : List ℕ)
    → tenths_of (lengths_in l) e ≡ tenths_of (lengths_of g) e
tenths-row g l h e = ap rounded (sum_row g l h e)
