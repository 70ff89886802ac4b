-- A cut of a span that is not empty has no piece over the whole span, or exactly one and all others empty. Assumes nothing.
use Prim.Native.Nat.{ℕ, zero, suc, ◌+◌, ◌-◌, ◌≤◌, ◌<◌}
use mathlib.Core.List.{List, [], ◌∷◌}
use mathlib.Core.Logic.{◌⊎◌, inl, inr}
use mathlib.Core.Option.{some}
use mathlib.Core.Path.{◌≡◌, refl, sym, ap, ◌∙◌}
use native.Mathlib.Decide.{ℕ_discrete}
use native.Mathlib.Omega.{arith}
use lib.ListN.{get_elem?}
use Rattle.sizes.specs.Sizes.{too_many}
use Rattle.cfg.specs.Grammar.{Symbol, nonterminal, terminal}
use Rattle.chart.specs.Cell.{Fit}
use Rattle.theory_costs.specs.Cut.{Cost, Cut, cut_end, cut_leaf, cut_node, within}
use Rattle.theory_costs.specs.Rule.{single, together, others}
use Rattle.theory_costs.proofs.Cut.{cut-map}
use Rattle.theory_costs.proofs.Within.{within-whole, within-part, within-cases}

-- ---- an empty span

module _ {fit : Fit} {cost : Cost} {b : ℕ} {empty : ℕ → ℕ} (at : (k : ℕ) → cost k b b ≡ empty k) where
  pub cut-nothing : {places : List Symbol} {a u : ℕ} → a ≡ b → Cut fit cost b places a u → u ≡ together empty places
  unfolding together single
  cut-nothing e (cut_end d) = refl
  cut-nothing e (cut_leaf l q c) = absurd (omega arith)
  cut-nothing {a = a} e (cut_node {k} {places} {v = v} c l m d s) =
      let h = cut-nothing (omega arith) d in
      let x : a ≡ b = e in
      let y : c ≡ b = omega arith in
      s ∙ ap (λ (z : ℕ). cost k z c + v) x ∙ ap (λ (z : ℕ). cost k b z + v) y ∙ ap (λ (z : ℕ). z + v) (at k)
      ∙ ap (λ (z : ℕ). empty k + z) h

  pub nothing-cut : (places : List Symbol) → together empty places < too_many → Cut fit cost b places b (together empty places)
  unfolding together single
  nothing-cut [] l = cut_end refl
  nothing-cut (nonterminal k ∷ places) l =
      cut_node {a = b} b (omega arith) (omega arith) (nothing-cut places (omega arith))
      (ap (λ (z : ℕ). z + together empty places) (sym (at k)))
  nothing-cut (terminal t ∷ places) l = absurd (omega arith)

-- ---- a span that is not empty

-- the one piece over the whole span is a nonterminal's, at place q, and all others are empty
abbrev pub ByWhole : (ℕ → ℕ) → (ℕ → ℕ) → List Symbol → ℕ → Type 0
ByWhole empty full places u =
    (q : ℕ) × (k : ℕ) × (get_elem? places q ≡ some (nonterminal k)) × (u ≡ others empty places q + full k)

module _ (fit : Fit) (full : ℕ → ℕ) (least : Cost) (i j : ℕ) (h : i < j) where
  -- from a later start on no piece covers the whole span
  cut_later : (full' : ℕ → ℕ) {places : List Symbol} {a u : ℕ} → i < a → Cut fit (within i j full least) j places a u
      → Cut fit (within i j full' least) j places a u
  cut_later full' {u = u} l = cut-map (suc i) j u
      (λ k a c _ m n o _. within-part i j full least k a c (omega arith) ∙ sym (within-part i j full' least k a c (omega arith)))
      l (omega arith)

  -- a cut of few enough nodes, without a piece over the whole span
  pub bare→cut : {places : List Symbol} {u : ℕ} → u < too_many → Cut fit (within i j (λ _. too_many) least) j places i u
      → Cut fit (within i j full least) j places i u
  bare→cut {u = u} l = cut-map i j u (λ k a c _ m n o. within-cases i j (λ _. too_many) least k
      (λ (x : ℕ). x ≤ u → x ≡ within i j full least k a c) a c m n o
      (λ _ _ p. absurd (omega arith)) (λ s p. sym (within-part i j full least k a c s)))
      (omega arith) (omega arith)

  module _ {empty : ℕ → ℕ} (start : (k : ℕ) → least k i i ≡ empty k) (stop : (k : ℕ) → least k j j ≡ empty k) where
    pub whole-or-bare : {places : List Symbol} {a u : ℕ} → a ≡ i → Cut fit (within i j full least) j places a u
        → Cut fit (within i j (λ _. too_many) least) j places a u ⊎ ByWhole empty full places u
    unfolding others single
    whole-or-bare e (cut_end d) = absurd (omega arith)
    whole-or-bare e (cut_leaf l q c) = inl (cut_leaf l q (cut_later (λ _. too_many) (omega arith) c))
    whole-or-bare {a = a} {u} e (cut_node {k} {places} {v = v} c l m d s) = go (ℕ_discrete c i) (ℕ_discrete c j) (λ p. whole-or-bare p d)
      where
        part : c - a < j - i → u ≡ within i j (λ _. too_many) least k a c + v
        part n = s ∙ ap (λ (z : ℕ). z + v) (within-part i j full least k a c n ∙ sym (within-part i j (λ _. too_many) least k a c n))

        empty-first : c ≡ i → u ≡ empty k + v
        empty-first p =
            let n : c - a < j - i = omega arith in
            s ∙ ap (λ (z : ℕ). z + v)
            (within-part i j full least k a c n ∙ ap (λ (z : ℕ). least k z c) e ∙ ap (least k i) p ∙ start k)

        more : c ≡ i → Cut fit (within i j (λ _. too_many) least) j places c v ⊎ ByWhole empty full places v
            → Cut fit (within i j (λ _. too_many) least) j (nonterminal k ∷ places) a u ⊎ ByWhole empty full (nonterminal k ∷ places) u
        more p (inl x) = inl (cut_node c l m x (part (omega arith)))
        more p (inr (q, n, x, y)) = let z = empty-first p in inr (suc q, n, x, omega arith)

        go : Dec (c ≡ i) → Dec (c ≡ j) → (c ≡ i → Cut fit (within i j (λ _. too_many) least) j places c v ⊎ ByWhole empty full places v)
            → Cut fit (within i j (λ _. too_many) least) j (nonterminal k ∷ places) a u ⊎ ByWhole empty full (nonterminal k ∷ places) u
        go (yes p) _ r = more p (r p)
        go (no p) (yes q) r =
            let x : within i j full least k a c ≡ full k =
            ap (λ (z : ℕ). within i j full least k z c) e ∙ ap (within i j full least k i) q ∙ within-whole i j full least k in
            let y : v ≡ together empty places =
            cut-nothing {cost = within i j full least} (λ n. within-part i j full least n j j (omega arith) ∙ stop n) q d in
            inr (0, k, refl, omega arith)
        go (no p) (no q) r = inl (cut_node c l m (cut_later (λ _. too_many) (omega arith) d) (part (omega arith)))

    pub whole→cut : (places : List Symbol) (q k : ℕ) → get_elem? places q ≡ some (nonterminal k) → others empty places q + full k < too_many
        → Cut fit (within i j full least) j places i (others empty places q + full k)
    unfolding others single
    whole→cut [] q k e l = absurd (omega arith)
    whole→cut (nonterminal n ∷ places) zero k e l =
        let p : n ≡ k = cc in
        let x : within i j full least n i j ≡ full k = within-whole i j full least n ∙ ap full p in
        let s : together empty places + full k ≡ within i j full least n i j + together empty places = omega arith in
        cut_node {k = n} {a = i} j (omega arith) (omega arith)
        (nothing-cut {cost = within i j full least} (λ m. within-part i j full least m j j (omega arith) ∙ stop m) places (omega arith))
        s
    whole→cut (terminal t ∷ places) zero k e l = absurd (omega arith)
    whole→cut (nonterminal n ∷ places) (suc q) k e l =
        let x : within i j full least n i i ≡ empty n = within-part i j full least n i i (omega arith) ∙ start n in
        let s : empty n + others empty places q + full k ≡ within i j full least n i i + (others empty places q + full k) = omega arith in
        cut_node {k = n} {a = i} i (omega arith) (omega arith) (whole→cut places q k e (omega arith)) s
    whole→cut (terminal t ∷ places) (suc q) k e l = absurd (omega arith)
