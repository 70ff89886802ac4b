-- The cost of a piece inside a span: of the whole of it, or of a smaller piece. Assumes nothing.
use Prim.Native.Nat.{ℕ, ◌-◌, ◌≤◌, ◌<◌}
use mathlib.Core.Bool.{true, false, ◌&&◌}
use mathlib.Core.List.{List}
use mathlib.Core.Logic.{dite}
use mathlib.Core.Path.{◌≡◌, refl, sym, ap, ◌∙◌, subst}
use native.Mathlib.Decide.{ℕ_discrete, dec_lt}
use native.Mathlib.Omega.{arith}
use lib.Dec.{eqb}
use borrow.Author.Tests.{eq-eqb, ne_eqb}
use Rattle.cfg.specs.Grammar.{Symbol}
use Rattle.chart.specs.Cell.{Fit}
use Rattle.theory_costs.specs.Cut.{Cost, LeastCut, within}
use Rattle.theory_costs.proofs.Cut.{leastcut-same}

module _ (i j : ℕ) (full : ℕ → ℕ) (least : Cost) (k : ℕ) where
  pub within-whole : within i j full least k i j ≡ full k
  unfolding within
  within-whole = rw (eq-eqb i i refl, eq-eqb j j refl, within)

  pub within-part : (a b : ℕ) → b - a < j - i → within i j full least k a b ≡ least k a b
  unfolding within
  within-part a b l = go (ℕ_discrete a i) (ℕ_discrete b j)
    where
      go : Dec (a ≡ i) → Dec (b ≡ j) → within i j full least k a b ≡ least k a b
      go (yes e) (yes d) = absurd (omega arith)
      go (yes e) (no d) = rw (eq-eqb a i e, ne_eqb b j d, within)
      go (no e) d = rw (ne_eqb a i e, within)

  -- a piece is the whole span, or shorter
  pub within-cases : (P : ℕ → Type 0) (a b : ℕ) → i ≤ a → a ≤ b → b ≤ j → (a ≡ i → b ≡ j → P (full k))
      → (b - a < j - i → P (least k a b)) → P (within i j full least k a b)
  within-cases P a b h l m f g = dite (dec_lt (b - a) (j - i))
      (λ s. subst P (sym (within-part a b s)) (g s))
      (λ n.
      let e : a ≡ i = omega arith in
      let d : b ≡ j = omega arith in
      subst P (sym (ap (λ (x : ℕ). within i j full least k x b) e ∙ ap (within i j full least k i) d ∙ within-whole)) (f e d))

-- only the cost of the whole span changes
pub within-full : (full full' : ℕ → ℕ) (least : Cost) (i j k a b : ℕ) → full k ≡ full' k
    → within i j full least k a b ≡ within i j full' least k a b
unfolding within
within-full full full' least i j k a b e =
    ap (λ (x : ℕ). elim (eqb a i && eqb b j) [ true ↦ x | false ↦ least k a b ]) e

-- only the costs of the smaller pieces change
pub within-least : (full : ℕ → ℕ) (least least' : Cost) (i j k a b : ℕ) → i ≤ a → a ≤ b → b ≤ j
    → (b - a < j - i → least k a b ≡ least' k a b) → within i j full least k a b ≡ within i j full least' k a b
within-least full least least' i j k a b h l m f =
    within-cases i j full least k (λ (x : ℕ). x ≡ within i j full least' k a b) a b h l m
    (λ e d. sym (ap (λ (x : ℕ). within i j full least' k x b) e ∙ ap (within i j full least' k i) d ∙ within-whole i j full least' k))
    (λ s. f s ∙ sym (within-part i j full least' k a b s))

-- the whole span costs what the other costs say
pub within_even : (full : ℕ → ℕ) (least : Cost) (i j k a b : ℕ) → i ≤ a → a ≤ b → b ≤ j → least k i j ≡ full k
    → within i j full least k a b ≡ least k a b
within_even full least i j k a b h l m f =
    within-cases i j full least k (λ (x : ℕ). x ≡ least k a b) a b h l m
    (λ e d. sym (ap (λ (x : ℕ). least k x b) e ∙ ap (least k i) d ∙ f))
    (λ s. refl)

-- from a later start on no piece is the whole span, so the least costs there serve every span that starts earlier and ends at j
pub leastcut-later : {fit : Fit} (full : ℕ → ℕ) {least : Cost} {places : List Symbol} (i : ℕ) {a j v : ℕ} → i < a
    → LeastCut fit least places a j v → LeastCut fit (within i j full least) places a j v
leastcut-later full {least} i {a} {j} l =
    leastcut-same a j (λ k c d m n o. sym (within-part i j full least k c d (omega arith)))
