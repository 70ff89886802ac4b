-- What a filled chart says: its cells have exactly the nonterminals with a parse tree over the span, it is complete exactly if the input
-- has a tree, and neither what was found in the chart nor what comes after its cells matters. Assumes nothing.
use Prim.Native.Nat.{ℕ, suc, ◌+◌, ◌≤◌, ◌<◌}
use mathlib.Core.Bool.{true}
use mathlib.Core.List.{List, []}
use mathlib.Core.Logic.{◌↔◌, ◌⊎◌, inl, inr}
use mathlib.Core.Path.{◌≡◌, sym, ap, ◌∙◌, subst}
use native.Mathlib.Omega.{arith}
use lib.ListN.{length, take, drop, length-append, take-append-drop}
use lib.Seq.{slice, take-length, length-take-le}
use Rattle.sizes.specs.Sizes.{cells, max_input}
use Rattle.sets.specs.Set.{has}
use Rattle.cfg.specs.Grammar.{Cfg}
use Rattle.cfg.specs.Tree.{Forest, Parse, HasTree}
use Rattle.chart.specs.Cell.{cell}
use Rattle.chart.specs.Column.{opened, extended_by, filled, complete}
use Rattle.chart.proofs.Derived.{Bounded}
use Rattle.chart.proofs.Trees.{node→tree, tree→node}
use Rattle.chart.proofs.Filled.{extended_by-length, extended_by-behind, extended_by-before, extended_by-other, filled-append}
use Rattle.chart.proofs.Filled.{opened-length, opened-behind, opened-before, opened-zero}
use Rattle.chart.proofs.Exact.{exact-filled}

module _ (G : Cfg) where
  -- a cell has exactly the nonterminals with a parse tree over its span
  pub filled-true : Bounded G → (w chart : List ℕ) → length w ≤ max_input → cells ≤ length chart
      → (i j k : ℕ) → i ≤ j → j ≤ length w → (has k (cell (filled G w chart) i j) ≡ true) ↔ ((t : Forest) × Parse G k (slice i j w) t)
  filled-true low w chart h c i j k a b =
      let x = exact-filled G low w chart h c in
      let b' : j < suc (length w) = omega arith in (
        λ e. node→tree G k (slice i j w) (x.sound i j k a b' e),
        λ t. x.full i j k a b' (tree→node G k (slice i j w) t),
      )

  -- the cells below the diagonal, and those of columns that no byte has reached, are empty
  pub filled_zero : (w chart : List ℕ) → length w ≤ max_input → (i j : ℕ) → i ≤ max_input → j ≤ max_input → (j < i) ⊎ (length w < j)
      → cell (filled G w chart) i j ≡ 0
  unfolding filled
  filled_zero w chart h i j a b d =
      extended_by-other G [] w (opened G chart) i j (omega arith) b (λ n l m e. go n m e d)
      ∙ opened-zero G chart i j a b (λ e. go 0 (omega arith) e d)
    where
      go : (n : ℕ) → n ≤ 0 + length w → j ≡ n → (j < i) ⊎ (length w < j) → n < i
      go n m e (inl l) = omega arith
      go n m e (inr l) = absurd (omega arith)

  -- the chart is complete exactly if the input has a tree
  pub complete-tree : Bounded G → (w chart : List ℕ) → length w ≤ max_input → cells ≤ length chart
      → (complete G (length w) (filled G w chart) ≡ true) ↔ HasTree G w
  unfolding complete
  complete-tree low w chart h c =
      subst (λ (u : List ℕ). (has G.start (cell (filled G w chart) 0 (length w)) ≡ true) ↔ ((t : Forest) × Parse G G.start u t))
      (take-length w)
      (filled-true low w chart h c 0 (length w) G.start (omega arith) (omega arith))

  -- a column depends only on the bytes before it
  pub filled-prefix : (w chart : List ℕ) → length w ≤ max_input → (i j : ℕ) → i ≤ j → j ≤ length w
      → cell (filled G w chart) i j ≡ cell (filled G (take j w) chart) i j
  filled-prefix w chart h i j a b =
      let e : length (take j w) ≡ j = length-take-le j w b in
      let s : length (take j w) + length (drop j w) ≡ length w =
      sym (length-append (take j w) (drop j w)) ∙ ap length (take-append-drop j w) in
      ap (λ (u : List ℕ). cell (filled G u chart) i j) (sym (take-append-drop j w))
      ∙ ap (λ (u : List ℕ). cell u i j) (filled-append G (take j w) (drop j w) chart)
      ∙ extended_by-other G (take j w) (drop j w) (filled G (take j w) chart) i j (omega arith) (omega arith)
      (λ n l m p. absurd (omega arith))

  pub filled-length : (w chart : List ℕ) → cells ≤ length chart → length (filled G w chart) ≡ length chart
  unfolding filled
  filled-length w chart c = extended_by-length G [] w (opened G chart) ∙ opened-length G chart c

  -- what comes after the cells stays
  pub filled-behind : (w chart : List ℕ) → length w ≤ max_input → drop cells (filled G w chart) ≡ drop cells chart
  unfolding filled
  filled-behind w chart h = extended_by-behind G [] w (opened G chart) (omega arith) ∙ opened-behind G chart

  -- what was found does not matter
  pub filled-found : (w chart₁ chart₂ : List ℕ) → length w ≤ max_input → take cells (filled G w chart₁) ≡ take cells (filled G w chart₂)
  unfolding filled
  filled-found w chart₁ chart₂ h =
      extended_by-before G [] w (opened G chart₁) (omega arith)
      ∙ ap (extended_by G [] w) (opened-before G chart₁ ∙ sym (opened-before G chart₂))
      ∙ sym (extended_by-before G [] w (opened G chart₂) (omega arith))
