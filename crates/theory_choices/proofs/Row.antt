-- At a place of a rule over the span from i to j: the first end whose cost is within the budget is the end of the first child, and the
-- child may have what the rest leaves of the budget. Assumes nothing.
use Prim.Native.Nat.{ℕ, suc, ◌+◌, ◌-◌, ◌*◌, ◌≤◌, ◌<◌}
use mathlib.Core.Bool.{true}
use mathlib.Core.List.{List, [], ◌∷◌, ◌++◌}
use mathlib.Core.Path.{◌≡◌, sym, subst}
use native.Mathlib.Omega.{arith}
use lib.ListN.{length}
use Rattle.sizes.specs.Sizes.{too_many}
use Rattle.sets.specs.Set.{empty}
use Rattle.cfg.specs.Grammar.{Cfg, Symbol, nonterminal, terminal, Terminal, fits}
use Rattle.chart.specs.Cell.{Fit}
use Rattle.theory_costs.specs.Cut.{Cost, Cut, cut_end, cut_leaf, cut_node, LeastCut, within}
use Rattle.theory_costs.specs.Span.{bytes_of, FreeTree, Least}
use Rattle.theory_costs.proofs.Within.{within-cases}
use Rattle.theory_costs.proofs.Plain.{unmasked-least}
use Rattle.theory_enumeration.specs.Rows.{Row, Tree, Skipped, Share, SameSpan}
use Rattle.theory_enumeration.specs.Order.{AtLeast, Min}
use Rattle.theory_enumeration.proofs.Budgets.{least-skipped, least-share}
use Rattle.theory_enumeration.proofs.First.{own_first, end-first, leaf_first, row_first}
use Rattle.theory_choices.specs.SpanCosts.{SpanCosts, Rests}
use Rattle.theory_choices.proofs.Ties.{suffix-atleast, piece-atleast}

-- ---- what a least cost within the budget says of the first place

module _ {fit : Fit} {cost : Cost} {a j v budget : ℕ} where
  pub end-reached : LeastCut fit cost [] a j v → v ≤ budget → budget < too_many → a ≡ j
  end-reached L l m = go (L.reached (omega arith))
    where
      go : {u : ℕ} → Cut fit cost j [] a u → a ≡ j
      go (cut_end e) = e

  module _ {t : Terminal} {places : List Symbol} (L : LeastCut fit cost (terminal t ∷ places) a j v) (l : v ≤ budget)
      (m : budget < too_many) where
    pub terminal-fits : (a < j) × (fit a t ≡ true)
    terminal-fits = go (L.reached (omega arith))
      where
        go : {u : ℕ} → Cut fit cost j (terminal t ∷ places) a u → (a < j) × (fit a t ≡ true)
        go (cut_leaf h q c) = (h, q)

    pub terminal-rest : {c u : ℕ} → c ≡ suc a → LeastCut fit cost places c j u → u ≤ budget
    terminal-rest {c} {u} e R = let h = go (L.reached (omega arith)) in omega arith
      where
        go : {x : ℕ} → Cut fit cost j (terminal t ∷ places) a x → u ≤ x
        go {x} (cut_leaf h q d) = R.below x (subst (λ (y : ℕ). Cut fit cost j places y x) (sym e) d)

  -- some end is within the budget
  pub end-exists : {k : ℕ} {places : List Symbol} {rest : ℕ → ℕ} → Rests fit cost places a j rest
      → LeastCut fit cost (nonterminal k ∷ places) a j v → v ≤ budget → budget < too_many
      → (c : ℕ) × (a ≤ c) × (c ≤ j) × (cost k a c + rest c ≤ budget)
  end-exists {k} {places} {rest} R L l m = go l (L.reached (omega arith))
    where
      go : {u : ℕ} → u ≤ budget → Cut fit cost j (nonterminal k ∷ places) a u
          → (c : ℕ) × (a ≤ c) × (c ≤ j) × (cost k a c + rest c ≤ budget)
      go h (cut_node {v = later} c x y d e) = (c, x, y, let b = (R c x y).below later d in omega arith)

module _ {G : Cfg} {w : List ℕ} {fit : Fit} {M i j : ℕ} {full : ℕ → ℕ} {least : Cost} (S : SpanCosts G w fit M i j full least) where
  -- ---- no places, and a terminal

  pub end_step : {a : ℕ} (budget : ℕ) → a ≡ j → Min (Row G w (j - i) M [] a j budget) []
  end_step {a} budget e = end-first G w (j - i) M a j budget S.known e

  pub leaf-step : {t : Terminal} {places : List Symbol} {a c budget : ℕ} {e : List ℕ} → c ≡ suc a → a < j → fit a t ≡ true
      → Min (Row G w (j - i) M places c j budget) e → Min (Row G w (j - i) M (terminal t ∷ places) a j budget) e
  leaf-step {t} {places} {a} {c} {budget} {e} n h q m =
      let (x, (_, d), f) = (S.tells a t).0 q in
      let s : c ≡ a + 1 = omega arith in
      leaf_first G w (j - i) M a j budget S.known places (omega arith) t h (subst (λ (y : ℕ). fits t y ≡ true) d f)
      (subst (λ (y : ℕ). Min (Row G w (j - i) M places y j budget) e) s m)

  -- ---- a nonterminal

  -- the least number of nodes of the child over the span from a to b: over the whole span under the mask, else under none
  pub child-least : {k a b own : ℕ} → i ≤ a → a ≤ b → b ≤ j → SameSpan (j - i) M (b - a) own
      → Least (FreeTree G (bytes_of w) own (b - a) k a b) (within i j full least k a b)
  child-least {k} {a} {b} {own} h l m s =
      within-cases i j full least k (λ (x : ℕ). Least (FreeTree G (bytes_of w) own (b - a) k a b) x) a b h l m whole part
    where
      whole : a ≡ i → b ≡ j → Least (FreeTree G (bytes_of w) own (b - a) k a b) (full k)
      whole e d =
          let z : own ≡ M = s.same (omega arith) in
          rw (z, d, e) (S.exact.at k)

      part : b - a < j - i → Least (FreeTree G (bytes_of w) own (b - a) k a b) (least k a b)
      part q =
          let z : own ≡ empty = s.other (λ e. absurd (omega arith)) in
          rw z (unmasked-least (S.inside.at k a b h l m q))

  module _ {k a budget : ℕ} {places : List Symbol} {rest : ℕ → ℕ} (h : i ≤ a) (R : Rests fit (within i j full least) places a j rest) where
    -- no row begins with a child over d bytes if child and rest cost more than the budget
    pub end-skipped : (d : ℕ) → a + d ≤ j → budget < within i j full least k a (a + d) + rest (a + d)
        → Skipped G w (j - i) M k places a j budget d
    end-skipped d l =
        least-skipped G w (j - i) M k places a j budget d (within i j full least k a (a + d)) (rest (a + d))
        (piece-atleast S k a (a + d) budget h (omega arith) l)
        (suffix-atleast S budget (omega arith) l (R (a + d) (omega arith) l))

    -- a child that ends at b may have what the rest leaves
    pub end-share : {b : ℕ} → a ≤ b → b ≤ j → Share G w (j - i) M k places a j budget (b - a) (budget - rest b)
    end-share {b} l m =
        let at : b ≡ a + (b - a) = omega arith in
        least-share G w (j - i) M k places a j budget (b - a) (rest b)
        (subst (λ (y : ℕ). AtLeast (Row G w (j - i) M places y j budget) (rest b)) at
        (suffix-atleast S budget (omega arith) m (R b l m)))

  -- the first child ends at the first end within the budget, and has what the rest leaves
  pub row_step : {k a b own budget : ℕ} {places : List Symbol} {rest : ℕ → ℕ} {e f : List ℕ} (n : ℕ) → i ≤ a → a ≤ b → b ≤ j
      → Rests fit (within i j full least) places a j rest
      → ((c : ℕ) → a ≤ c → c < b → budget < within i j full least k a c + rest c)
      → SameSpan (j - i) M (b - a) own
      → Min (Tree G w (b - a) own k a b (budget - rest b)) e → length e ≡ 2 * n
      → Min (Row G w (j - i) M places b j (budget - n)) f
      → Min (Row G w (j - i) M (nonterminal k ∷ places) a j budget) (e ++ f)
  row_step {k} {a} {b} {own} {budget} {places} {rest} {e} {f} n h l m R dear s first size later =
      row_first G w (j - i) M a j budget S.known places (omega arith) k (b - a) (budget - rest b) n (omega arith)
      (λ d q. end-skipped h R d (omega arith) (dear (a + d) (omega arith) (omega arith))) (end-share h R l m)
      (subst (λ (y : ℕ). Min (Tree G w (j - i) M k a y (budget - rest b)) e) at
      (own_first G w (j - i) M a b (budget - rest b) (omega (arith, S.known)) (nonterminal k ∷ []) s (omega arith) (omega arith) first))
      size (subst (λ (y : ℕ). Min (Row G w (j - i) M places y j (budget - n)) f) at later)
    where
      at : b ≡ a + (b - a)
      at = omega arith
