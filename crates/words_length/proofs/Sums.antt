-- The sum over the nodes of a derivation, node by node. Assumes nothing.
use Prim.Native.Nat.{ℕ, zero, suc, ◌+◌, ◌*◌, ◌-◌, ◌/◌, ◌≤◌, ◌<◌, min}
use native.Mathlib.Omega.{arith}
use mathlib.Core.List.{List, [], ◌∷◌, ◌++◌}
use mathlib.Core.Path.{◌≡◌, refl, sym, ap, ◌∙◌}
use lib.ListN.{length, get_or, drop, length-drop}
use borrow.Author.Tests.{lt-ltb, le-ltb}
use native.Mathlib.Decide.{dec_lt}
use mathlib.Core.Logic.{dite}
use Rattle.sizes.specs.Sizes.{max_rules}
use Rattle.packed.specs.Packed.{place_count}
use Rattle.check_walk.proofs.Nodes.{at-two}
use Rattle.words_text.specs.Names.{text_in}
use Rattle.words_length.specs.Length.{size_in, most_size, size_sum}

-- ---- what a node adds

module _ (names p : List ℕ) (r : ℕ) where
  pub size-used : r < max_rules → size_in names p r ≡ length (text_in names r) + (2 + (place_count p r - 1))
  unfolding size_in
  size-used h = rw (lt-ltb r max_rules h)

  pub size-unused : max_rules ≤ r → 0 ≡ size_in names p r
  unfolding size_in
  size-unused h = rw (le-ltb r max_rules h)

-- a number that is no rule's adds nothing, whichever it is
size-min : (names p : List ℕ) (r : ℕ) → size_in names p (min r max_rules) ≡ size_in names p r
size-min names p r = dite (dec_lt r max_rules)
    (λ h. let e : min r max_rules ≡ r = omega arith in ap (size_in names p) e)
    (λ h. sym (size-unused names p (min r max_rules) (omega arith)) ∙ size-unused names p r (omega arith))

module _ (names p : List ℕ) (r n m : ℕ) (low : r < max_rules) (counted : n ≡ place_count p r) (text : m ≡ length (text_in names r)) where
  pub size_none : n ≡ 0 → m + 2 ≡ size_in names p r
  size_none h = omega (arith, size-used names p r low)

  pub size-some : (n ≡ 0 → ⊥) → m + n + 1 ≡ size_in names p r
  size-some h = let f : 1 ≤ n = omega arith in omega (arith, size-used names p r low)

-- ---- the sum

module _ (size : ℕ → ℕ) where
  pub sum_step : (e : List ℕ) (i : ℕ) → i < length e / 2
      → size_sum size (drop (2 * i) e) ≡ size (get_or e (2 * i + 1) 0) + size_sum size (drop (2 * (i + 1)) e)
  unfolding size_sum
  sum_step e i h =
      let j : 2 * i + 2 ≡ 2 * (i + 1) = omega arith in
      ap (size_sum size) (at-two e (2 * i) (get_or e (2 * i) 0) (get_or e (2 * i + 1) 0) (omega arith) refl refl)
      ∙ ap (λ (k : ℕ). size (get_or e (2 * i + 1) 0) + size_sum size (drop k e)) j

  -- at most one number is left, which is no node
  pub sum-end : (e : List ℕ) (i : ℕ) → length e / 2 ≤ i → size_sum size (drop (2 * i) e) ≡ 0
  unfolding size_sum
  sum-end e i h = go (drop (2 * i) e) (omega (arith, length-drop (2 * i) e))
    where
      go : (l : List ℕ) → length l ≤ 1 → size_sum size l ≡ 0
      go [] k = refl
      go (a ∷ []) k = refl
      go (a ∷ b ∷ l) k = absurd (omega arith)

  -- one row after another
  pub sum-append : (x y : List ℕ) (n : ℕ) → length x ≡ 2 * n → size_sum size (x ++ y) ≡ size_sum size x + size_sum size y
  unfolding size_sum
  sum-append [] y n h = omega arith
  sum-append (a ∷ []) y n h = absurd (omega arith)
  sum-append (a ∷ r ∷ x) y n h = omega (arith, sum-append x y (n - 1) (omega arith))

-- ---- the loop

-- m and what the nodes from i on add make the whole, for an input of n bytes
pub record SumTo (names p e : List ℕ) (n i m : ℕ) : Type 0 where
  pub whole : m + size_sum (size_in names p) (drop (2 * i) e) ≡ size_sum (size_in names p) e + 3 * n
  pub small : m ≤ 3 * n + most_size * i

module _ (names p e : List ℕ) (n : ℕ) where
  pub sum-next : (i m r k : ℕ) → i < length e / 2 → SumTo names p e n i m → r ≡ min (get_or e (2 * i + 1) 0) max_rules
      → (k ≡ size_in names p r) × (k ≤ most_size) → SumTo names p e n (i + 1) (m + k)
  sum-next i m r k h so_far number (is, little) =
      let whole = so_far.whole in
      let small = so_far.small in
      let same = ap (size_in names p) number ∙ size-min names p (get_or e (2 * i + 1) 0) in
      let step = sum_step (size_in names p) e i h in
      record { whole = omega arith; small = omega arith }

  pub sum_done : (i m : ℕ) → length e / 2 ≤ i → SumTo names p e n i m → m ≡ size_sum (size_in names p) e + 3 * n
  sum_done i m h so_far = let whole = so_far.whole in omega (arith, sum-end (size_in names p) e i h)
