-- One place of a rule, by spans as bits: what the steps of the code give. Assumes nothing.
use Prim.Native.Nat.{ℕ, suc, ◌+◌, ◌≤◌, ◌<◌}
use mathlib.Core.Bool.{Bool, true, false}
use mathlib.Core.List.{List}
use mathlib.Core.Path.{◌≡◌, refl, sym, ap, ◌∙◌, subst}
use native.Mathlib.Nat.{le_antisymm}
use native.Mathlib.Numerals.{add-one}
use native.Mathlib.Omega.{arith}
use Rattle.laws.proofs.Bools.{true-false, bool-ext, clash}
use Rattle.sets.specs.Set.{has}
use Rattle.sets.specs.Pairs.{Meeting}
use Rattle.cfg.specs.Grammar.{nonterminal, terminal}
use Rattle.chart.specs.Cell.{Fit, cuts}
use Rattle.packed.specs.Packed.{place_count, is_nonterminal_in, value_in, terminal_in, symbol_in}
use Rattle.packed.proofs.Fitting.{symbol-nonterminal, symbol-terminal}
use Rattle.fill_rule.specs.Flags.{Sets, tail, inner_leaf, inner_node, InnerAt}
use Rattle.fill_rule.proofs.First.{none-cuts}
use Rattle.fill_words.specs.Spans.{ends_of, starts_of}
use Rattle.fill_inner.specs.Begins.{InnerKnown, Follows, BeginsAt}

-- ---- the places after one

module _ (fit : Fit) (p : List ℕ) (r q a j n : ℕ) (starts : List ℕ) (last : ℕ) where
  pub follows-before : (c : ℕ) (f : Bool) → 0 < q → j ≤ a → a < n → c ≡ place_count p r → q < c → f ≡ has a (starts_of starts r q)
      → Follows fit p r q a j n starts last f
  follows-before c f z l m e h g = record {
    exact = λ sets told cut. g ∙ bool-ext (has a (starts_of starts r q)) (cuts fit sets (tail p r q) a n)
        (λ x. (told.sound q a z (omega arith) x).2) (λ x. told.all q a z (omega arith) l m x);
  }

  pub follows-none : (c : ℕ) → a < n → c ≡ place_count p r → c ≤ q → Follows fit p r q a j n starts last false
  follows-none c m e h = record { exact = λ sets told cut. sym (none-cuts fit sets p r q a n (omega arith) m) }

  pub follows-end : (f : Bool) → a ≤ n → n ≤ a → q ≤ place_count p r → f ≡ has q last → Follows fit p r q a j n starts last f
  follows-end f m l h g =
      record { exact = λ sets told cut. g ∙ cut q h ∙ ap (λ (x : ℕ). cuts fit sets (tail p r q) x n) (le_antisymm l m) }

-- ---- a nonterminal

module _ (p : List ℕ) (r q i n fits : ℕ) (ends starts : List ℕ) (last k : ℕ) (tag : is_nonterminal_in p r q ≡ true)
    (v : k ≡ value_in p r q) where
  node : symbol_in p r q ≡ nonterminal k
  node = symbol-nonterminal p r q tag ∙ ap nonterminal (sym v)

  -- only this nonterminal begins an inner cut
  node-only : (fit : Fit) (sets : Sets) → InnerAt fit sets p r i n q
      → (b : ℕ) × (i < b) × (b < n) × (has k (sets i b) ≡ true) × (cuts fit sets (tail p r (suc q)) b n ≡ true)
  node-only fit sets (inner_leaf u d l x y) = clash (cc node)
  node-only fit sets (inner_node j b d l m x y) =
      let c : j ≡ k = cc node in
      (b, l, m, subst (λ (z : ℕ). has z (sets i b) ≡ true) c x, y)

  pub node-meets : (c : ℕ) (f : Bool) → k < 32 → c ≡ place_count p r → q + 1 < c
      → Meeting 64 (ends_of ends i k) (starts_of starts r (q + 1)) f → BeginsAt p r q i n fits ends starts last f
  node-meets c f h e u meeting = record {
    exact = λ fit sets known. (
      λ g.
          let (b, _, x, y) = meeting.found g in
          let (l, m, z) = known.behind.sound (q + 1) b (omega arith) (omega arith) y in
          let o : i < b = omega arith in
          inner_node k b node o m (sym (known.inside.exact k b h o m) ∙ x)
          (ap (λ (j : ℕ). cuts fit sets (tail p r j) b n) (sym (add-one q)) ∙ z),
      λ g.
          let (b, l, m, x, y) = node-only fit sets g in
          meeting.all b (known.inside.exact k b h l m ∙ x) (known.behind.all (q + 1) b (omega arith) (omega arith) (omega arith) m
          (ap (λ (j : ℕ). cuts fit sets (tail p r j) b n) (add-one q) ∙ y)),
    );
  }

  pub node-last : (c : ℕ) → c ≡ place_count p r → c ≤ q + 1 → BeginsAt p r q i n fits ends starts last false
  node-last c e u = record {
    exact = λ fit sets known. (
      λ g. absurd (true-false g refl),
      λ g. let (b, l, m, x, y) = node-only fit sets g in sym (none-cuts fit sets p r (suc q) b n (omega arith) m) ∙ y,
    );
  }

  pub node-high : 32 ≤ k → BeginsAt p r q i n fits ends starts last false
  node-high h = record {
    exact = λ fit sets known. (
      λ g. absurd (true-false g refl),
      λ g. let (b, l, m, x, y) = node-only fit sets g in sym (known.inside.high k b h l m) ∙ x,
    );
  }

-- ---- a terminal

module _ (p : List ℕ) (r q i n fits : ℕ) (ends starts : List ℕ) (last : ℕ) (used : q < place_count p r) (tag : is_nonterminal_in p r q ≡ false)
    (t : Bool) (e : t ≡ has q fits) where
  leaf : symbol_in p r q ≡ terminal (terminal_in p r q)
  leaf = symbol-terminal p r q tag

  -- only a byte that fits begins an inner cut
  leaf-only : (fit : Fit) (sets : Sets) → InnerKnown fit sets p r i n fits ends starts last → InnerAt fit sets p r i n q
      → (t ≡ true) × (cuts fit sets (tail p r (suc q)) (suc i) n ≡ true)
  leaf-only fit sets known (inner_leaf u d l x y) =
      let c : terminal_in p r q ≡ u = cc leaf in
      (e ∙ known.here q used tag ∙ ap (fit i) c ∙ x, y)
  leaf-only fit sets known (inner_node j b d l m x y) = clash (cc leaf)

  pub leaf-follows : (f : Bool) → i < n → t ≡ true
      → ((fit : Fit) (j : ℕ) → j ≤ i + 1 → Follows fit p r (q + 1) (i + 1) j n starts last f)
      → BeginsAt p r q i n fits ends starts last f
  leaf-follows f l g follows = record {
    exact = λ fit sets known. (
      λ h. inner_leaf (terminal_in p r q) leaf l (sym (known.here q used tag) ∙ sym e ∙ g) (sym (rest fit sets known) ∙ h),
      λ h. rest fit sets known ∙ (leaf-only fit sets known h).1,
    );
  }
    where
      rest : (fit : Fit) (sets : Sets) → InnerKnown fit sets p r i n fits ends starts last → f ≡ cuts fit sets (tail p r (suc q)) (suc i) n
      rest fit sets known = (follows fit (i + 1) (omega arith)).exact sets known.behind known.after
          ∙ ap (λ (x : ℕ). cuts fit sets (tail p r x) (i + 1) n) (add-one q)
          ∙ ap (λ (x : ℕ). cuts fit sets (tail p r (suc q)) x n) (add-one i)

  pub leaf-misses : t ≡ false → BeginsAt p r q i n fits ends starts last false
  leaf-misses g =
      record { exact = λ fit sets known. (λ h. absurd (true-false h refl), λ h. sym g ∙ (leaf-only fit sets known h).0) }
