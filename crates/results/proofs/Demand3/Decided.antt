-- What first, next and count give for a grammar whose nonterminals are below 32, an input of at most 64 bytes and a chart that is long
-- enough, by how many derivations L has; and whether the input has a tree, as the chart says it. Assumes nothing.
use Prim.Native.Nat.{ℕ, ◌≤◌, ◌<◌, ◌/◌}
use native.Mathlib.Omega.{arith}
use mathlib.Core.Bool.{Bool, true, false, cond, not, false≢true}
use mathlib.Core.List.{List, [], ◌∷◌, Memᴰ}
use mathlib.Core.Logic.{◌↔◌, ite}
use mathlib.Core.Path.{◌≡◌, refl, sym, ap, ◌∙◌}
use lib.ListN.{length, get_or, replicate, length-replicate}
use borrow.Author.Tests.{eq-eqb, ne_eqb}
use Rattle.sizes.specs.Sizes.{max_input, cells}
use Rattle.laws.proofs.Bools.{by-test}
use Rattle.cfg.specs.Grammar.{Cfg}
use Rattle.cfg.specs.Tree.{HasTree}
use Rattle.cfg.specs.Listing.{L}
use Rattle.chart.specs.Column.{filled}
use Rattle.chart.proofs.Derived.{Bounded}
use Rattle.chart.proofs.Truth.{complete-tree}
use Rattle.results.specs.Answer.{refused, answered, handed, nothing, counted, check}
use Rattle.results.specs.Measure.{unlisted}
use Rattle.results.specs.Enumerate.{tree_in, handing_out, after_in, figure, first_in, next_in, count_in}
use Rattle.results.proofs.Decide.{decide-first, decide-passed}
use Rattle.results.proofs.Demand3.Rows.{head-some, head-none, member-listed, not-member-listed}

module _ (G : Cfg) (bounded : Bounded G) (w : List ℕ) (high : length w ≤ max_input) where
  module _ (chart : List ℕ) (c : cells ≤ length chart) where
    pub tree_in-exact : (tree_in G w chart ≡ true) ↔ HasTree G w
    unfolding tree_in
    tree_in-exact = complete-tree G bounded w chart high c

    -- a choice by the chart is the choice by the tree
    pub tree_in-choice : (tree : Dec (HasTree G w)) {A : Type 0} (a b : A) → cond (tree_in G w chart) a b ≡ ite tree a b
    tree_in-choice tree {A} a b = go (tree_in G w chart) refl tree
      where
        go : (t : Bool) → tree_in G w chart ≡ t → (d : Dec (HasTree G w)) → cond t a b ≡ ite d a b
        go true e (yes t) = refl
        go true e (no n) = absurd (n (tree_in-exact.0 e))
        go false e (yes t) = absurd (false≢true (sym e ∙ tree_in-exact.1 t))
        go false e (no n) = refl

    pub count_in-none : length (L G w) ≡ 0 → (tree : Dec (HasTree G w))
        → (count_in G w chart).answer ≡ ite tree (refused 13) (answered (counted 0))
    unfolding count_in
    count_in-none h tree = rw (eq-eqb (length (L G w)) 0 h, count_in) (tree_in-choice tree (refused 13) (answered (counted 0)))

    pub first_in-none : (out : List ℕ) → length (L G w) ≡ 0 → (tree : Dec (HasTree G w))
        → (first_in G w chart out).answer ≡ ite tree (refused 13) (answered nothing)
    unfolding first_in handing_out
    first_in-none out h tree = rw (head-none (L G w) h) (tree_in-choice tree (refused 13) (answered nothing))

  -- the chart that is filled for the input decides whether it has a tree
  pub tree-decided : Dec (HasTree G w)
  tree-decided =
      let long : cells ≤ length (replicate {A = ℕ} cells 0) = omega (arith, length-replicate {A = ℕ} cells 0) in
      let exact = tree_in-exact (replicate cells 0) long in
      by-test (tree_in G w (replicate cells 0)) (λ e. yes (exact.0 e)) (λ e. no λ t. false≢true (sym e ∙ exact.1 t))

module _ (G : Cfg) (w chart : List ℕ) where
  pub count_in-some : 0 < length (L G w) → (count_in G w chart).answer ≡ answered (figure (length (L G w)))
  unfolding count_in
  count_in-some h = rw (ne_eqb (length (L G w)) 0 (omega arith), count_in)

  module _ (out : List ℕ) where
    pub first_in-some : 0 < length (L G w) → (first_in G w chart out).answer ≡ answered (handed (length (get_or (L G w) 0 []) / 2))
    unfolding first_in handing_out
    first_in-some h = rw (head-some (L G w) h)

    pub next_in-listed : (e : List ℕ) → Memᴰ e (L G w)
        → next_in G w e chart out ≡ handing_out (after_in e (L G w)) (answered nothing) (filled G w chart) out
    unfolding next_in unlisted
    next_in-listed e i = decide-passed _ _ (check (unlisted G w e) 12 ∷ []) (ap not (member-listed e i), tt)

    pub next_in-other : (e : List ℕ) → (Memᴰ e (L G w) → ⊥)
        → next_in G w e chart out ≡ record { answer = refused 12; chart = filled G w chart; output = out }
    unfolding next_in unlisted
    next_in-other e n = decide-first _ _ [] (check (unlisted G w e) 12) [] tt (ap not (not-member-listed e (L G w) n))
