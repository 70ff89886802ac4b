-- How a cut of a span begins: with a piece inside the span, an empty piece, or the whole. Assumes nothing.
use Prim.Native.Nat.{ℕ, suc, ◌≤◌, ◌<◌}
use mathlib.Core.Bool.{true, false}
use mathlib.Core.List.{List, ◌∷◌}
use mathlib.Core.Path.{◌≡◌, refl, sym, ap, subst, ◌∙◌}
use native.Mathlib.Decide.{ℕ_discrete}
use native.Mathlib.Omega.{arith}
use borrow.Author.Tests.{ne_eqb}
use Rattle.sets.specs.Set.{has}
use Rattle.cfg.specs.Grammar.{Symbol, nonterminal, terminal}
use Rattle.chart.specs.Cell.{Fit, cuts}
use Rattle.chart.proofs.Cut.{Cut, cut_leaf, cut_node, InSets, cuts→cut, cut→cuts}
use Rattle.packed.specs.Packed.{place_count}
use Rattle.packed.proofs.Laws.{places-end}
use Rattle.fill_rule.specs.Flags.{Sets, tail, InnerCut, inner_leaf, inner_node}

-- where no place is left, only the empty span is cut
pub none-cuts : (fit : Fit) (sets : Sets) (p : List ℕ) (r q a n : ℕ) → place_count p r ≤ q → a < n → cuts fit sets (tail p r q) a n ≡ false
unfolding cuts
none-cuts fit sets p r q a n h l = ap (λ (s : List Symbol). cuts fit sets s a n) (places-end p r q h) ∙ ne_eqb a n (omega arith)

module _ (fit : Fit) (sets : Sets) (n : ℕ) where
  pub data FirstCut (s : Symbol) (rest : List Symbol) (a : ℕ) : Type 0 where
    first_inner : InnerCut fit sets n s rest a → FirstCut s rest a
    first-empty : (k : ℕ) → s ≡ nonterminal k → has k (sets a a) ≡ true → cuts fit sets rest a n ≡ true → FirstCut s rest a
    first-whole : (k : ℕ) → s ≡ nonterminal k → a < n → has k (sets a n) ≡ true → cuts fit sets rest n n ≡ true → FirstCut s rest a

  cut-first : (s : Symbol) (rest : List Symbol) (a : ℕ) → a ≤ n → Cut fit (InSets sets) n (s ∷ rest) a → FirstCut s rest a
  cut-first (terminal t) rest a h (cut_leaf l q c) = first_inner (inner_leaf t refl l q (cut→cuts fit sets n l c))
  cut-first (nonterminal k) rest a h (cut_node b l m q c) = go (ℕ_discrete b a) (ℕ_discrete b n) (cut→cuts fit sets n m c)
    where
      go : Dec (b ≡ a) → Dec (b ≡ n) → cuts fit sets rest b n ≡ true → FirstCut (nonterminal k) rest a
      go (yes e) d u = first-empty k refl (subst (λ (x : ℕ). has k (sets a x) ≡ true) e q)
          (subst (λ (x : ℕ). cuts fit sets rest x n ≡ true) e u)
      go (no e) (yes d) u =
          let f : ¬ (b ≡ a) = e in
          first-whole k refl (omega arith) (subst (λ (x : ℕ). has k (sets a x) ≡ true) d q)
          (subst (λ (x : ℕ). cuts fit sets rest x n ≡ true) d u)
      go (no e) (no d) u =
          let f : ¬ (b ≡ a) = e in
          let g : ¬ (b ≡ n) = d in
          first_inner (inner_node k b refl (omega arith) (omega arith) q u)

  pub cuts_first : (s : Symbol) (rest : List Symbol) (a : ℕ) → a ≤ n → cuts fit sets (s ∷ rest) a n ≡ true → FirstCut s rest a
  cuts_first s rest a h e = cut-first s rest a h (cuts→cut fit sets n (s ∷ rest) a h e)

  -- a nonterminal over the span from a to b, and a cut of the rest
  node-cuts : (s : Symbol) (rest : List Symbol) (a k b : ℕ) → s ≡ nonterminal k → a ≤ b → b ≤ n → has k (sets a b) ≡ true
      → cuts fit sets rest b n ≡ true → cuts fit sets (s ∷ rest) a n ≡ true
  node-cuts s rest a k b e l m q c = subst (λ (x : Symbol). cuts fit sets (x ∷ rest) a n ≡ true) (sym e)
      (cut→cuts fit sets n (omega arith) (cut_node b l m q (cuts→cut fit sets n rest b m c)))

  pub first-cuts : (s : Symbol) (rest : List Symbol) (a : ℕ) → a ≤ n → FirstCut s rest a → cuts fit sets (s ∷ rest) a n ≡ true
  first-cuts s rest a h (first_inner (inner_leaf t e l q c)) = subst (λ (x : Symbol). cuts fit sets (x ∷ rest) a n ≡ true) (sym e)
      (cut→cuts fit sets n h (cut_leaf l q (cuts→cut fit sets n rest (suc a) l c)))
  first-cuts s rest a h (first_inner (inner_node k b e l m q c)) = node-cuts s rest a k b e (omega arith) (omega arith) q c
  first-cuts s rest a h (first-empty k e q c) = node-cuts s rest a k a e (omega arith) h q c
  first-cuts s rest a h (first-whole k e l q c) = node-cuts s rest a k n e h (omega arith) q c
