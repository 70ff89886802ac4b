-- The rules of the nodes that cover something, node by node, and the comparison of two such lists. Assumes nothing.
use Prim.Native.Nat.{ℕ, ◌+◌, ◌*◌, ◌/◌, ◌≤◌, ◌<◌}
use mathlib.Core.Bool.{false, ◌&&◌}
use mathlib.Core.List.{List, [], ◌∷◌}
use mathlib.Core.Logic.{◌≢◌}
use mathlib.Core.Path.{◌≡◌, refl, sym, ap, ap₂, ◌∙◌}
use native.Mathlib.Decide.{dec_lt}
use native.Mathlib.Omega.{arith}
use lib.Dec.{eqb, leb}
use lib.ListN.{length, get_or, drop, length-drop}
use borrow.Author.Tests.{eq-eqb, ne_eqb, le-leb, lt-leb}
use Rattle.results.specs.Check.{same}
use Rattle.results.specs.Measure.{rules_used, same_built}
use Rattle.results.proofs.SameBuild.{rules-none, rules-some, rules-end}
use Rattle.check_walk.proofs.Nodes.{at-two}
use Rattle.checker.specs.Build.{used_from, NextUsed}

-- ---- one node more

module _ (e : List ℕ) (i : ℕ) where
  at_node : i < length e / 2 → used_from e i ≡ rules_used (get_or e (2 * i) 0 ∷ get_or e (2 * i + 1) 0 ∷ drop (2 * (i + 1)) e)
  at_node h =
      let j : 2 * i + 2 ≡ 2 * (i + 1) = omega arith in
      ap rules_used
      (at-two e (2 * i) (get_or e (2 * i) 0) (get_or e (2 * i + 1) 0) (omega arith) refl refl
      ∙ ap (λ (k : ℕ). get_or e (2 * i) 0 ∷ get_or e (2 * i + 1) 0 ∷ drop k e) j)

  used-not : i < length e / 2 → get_or e (2 * i) 0 ≡ 0 → used_from e i ≡ used_from e (i + 1)
  used-not h z = at_node h ∙ rules-none (get_or e (2 * i) 0) (get_or e (2 * i + 1) 0) (drop (2 * (i + 1)) e) z

  used-here : i < length e / 2 → get_or e (2 * i) 0 ≢ 0 → used_from e i ≡ get_or e (2 * i + 1) 0 ∷ used_from e (i + 1)
  used-here h s = at_node h ∙ rules-some (get_or e (2 * i) 0) (get_or e (2 * i + 1) 0) (drop (2 * (i + 1)) e) s

  used-end : length e / 2 ≤ i → used_from e i ≡ []
  used-end h = rules-end (drop (2 * i) e) (omega (arith, length-drop (2 * i) e))

-- ---- the next node that is used, past one that is not

module _ (e : List ℕ) (i r : ℕ) (onward : i ≤ r) (left : used_from e i ≡ used_from e r) where
  pub used-passed : r < length e / 2 → get_or e (2 * r) 0 ≡ 0 → used_from e i ≡ used_from e (r + 1)
  used-passed h z = left ∙ used-not e r h z

-- ---- two lists, by the tests of `same_rules`

-- from node i of a and node j of b on the rules are compared; each of the two is used, or past the last node
pub record Comparing (a b : List ℕ) (i j : ℕ) : Type 0 where
  pub one : i < length a / 2 → get_or a (2 * i) 0 ≢ 0
  pub other : j < length b / 2 → get_or b (2 * j) 0 ≢ 0
  pub rest : same (used_from a i) (used_from b j) ≡ same_built a b

module _ (a b : List ℕ) where
  pub comparing-start : (i j : ℕ) → NextUsed a 0 i → NextUsed b 0 j → Comparing a b i j
  comparing-start i j x y = record {
    one = x.covers;
    other = y.covers;
    rest = sym (ap₂ same x.left y.left);
  }

  module _ (i j : ℕ) (c : Comparing a b i j) where
    module _ (h : i < length a / 2) where
      pub second-ends : length b / 2 ≤ j → false ≡ same_built a b
      unfolding same
      second-ends k = sym (ap₂ same (used-here a i h (c.one h)) (used-end b j k)) ∙ c.rest

      module _ (k : j < length b / 2) where
        -- the rules of the two nodes are compared, and then what is left after them
        comparing-both : (eqb (get_or a (2 * i + 1) 0) (get_or b (2 * j + 1) 0) && same (used_from a (i + 1)) (used_from b (j + 1)))
            ≡ same_built a b
        unfolding same
        comparing-both = sym (ap₂ same (used-here a i h (c.one h)) (used-here b j k (c.other k))) ∙ c.rest

        pub rules-differ : get_or a (2 * i + 1) 0 ≢ get_or b (2 * j + 1) 0 → false ≡ same_built a b
        rules-differ d = rw (ne_eqb _ _ d) at comparing-both

        pub rules-agree : get_or a (2 * i + 1) 0 ≡ get_or b (2 * j + 1) 0 → (i' j' : ℕ) → NextUsed a (i + 1) i' → NextUsed b (j + 1) j'
            → Comparing a b i' j'
        rules-agree e i' j' x y = record {
          one = x.covers;
          other = y.covers;
          rest = sym (ap₂ same x.left y.left) ∙ (rw (eq-eqb _ _ e) at comparing-both);
        }

    pub first_ends : length a / 2 ≤ i → leb (length b / 2) j ≡ same_built a b
    unfolding same
    first_ends h = go (dec_lt j (length b / 2))
      where
        go : Dec (j < length b / 2) → leb (length b / 2) j ≡ same_built a b
        go (yes k) = lt-leb (length b / 2) j k ∙ sym (ap₂ same (used-end a i h) (used-here b j k (c.other k))) ∙ c.rest
        go (no k) = le-leb (length b / 2) j (omega arith) ∙ sym (ap₂ same (used-end a i h) (used-end b j (omega arith))) ∙ c.rest
