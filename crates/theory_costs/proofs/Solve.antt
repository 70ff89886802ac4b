-- Numbers for one span that are sound and stable are the least numbers of nodes, by induction on the number of nodes. The cost of a rule
-- keeps them sound. A nonterminal of the mask has no tree, so stability asks nothing of its number. Assumes nothing.
use Prim.Native.Nat.{ℕ, zero, suc, ◌+◌, ◌-◌, ◌≤◌}
use mathlib.Core.Bool.{Bool, true, false, true≢false}
use mathlib.Core.List.{List, [], ◌∷◌, append-nil}
use mathlib.Core.Logic.{dite}
use mathlib.Core.Path.{◌≡◌, refl, sym, ap, ◌∙◌, subst}
use native.Mathlib.Decide.{dec_lt}
use native.Mathlib.Omega.{arith}
use lib.ListN.{length}
use Rattle.sizes.specs.Sizes.{too_many}
use Rattle.sets.specs.Set.{has}
use Rattle.cfg.specs.Grammar.{Cfg, Symbol, nonterminal, Of}
use Rattle.cfg.specs.Tree.{Forest, end, node, yield, nodes, Fits, fits_end, fits_node}
use Rattle.cfg.specs.Derivation.{Has, has_here, has_below, has_beside}
use Rattle.cfg.proofs.Of.{of-same-left}
use Rattle.chart.specs.Cell.{Fit}
use Rattle.theory_costs.specs.Lowest.{Lowest}
use Rattle.theory_costs.specs.Cut.{Cost, Cut, within}
use Rattle.theory_costs.specs.Span.{Tells, Reads, FreeOver, RowOver, TreeOver, Inside, Full}
use Rattle.theory_costs.specs.Rule.{NodeCost}
use Rattle.theory_costs.specs.Solve.{SoundAt, Sound, Stable}
use Rattle.theory_costs.proofs.Span.{reads-length, least_by}
use Rattle.theory_costs.proofs.Rows.{cut→row, row→cut}

-- a tree has a node of its nonterminal over all its bytes
pub tree-whole : {G : Cfg} {k n : ℕ} {t : Forest} → Fits G (nonterminal k ∷ []) t → length (yield t) ≡ n → Has G k n t
unfolding yield
tree-whole (fits_node {below = below} o g fits_end) e = has_here o (sym (ap length (append-nil (yield below))) ∙ e)

-- no cost is lower than the lowest
pub settled-by : {fit : Fit} {full : ℕ → ℕ} {least : Cost} {places : List Symbol} {i j v x : ℕ}
    → Lowest (NodeCost fit full least places i j) v → x ≤ v → (u : ℕ) → NodeCost fit full least places i j u → x ≤ u
settled-by L l u p = let h = L.below u p in omega arith

-- a node above a forest
pub free-node : (G : Cfg) (M n : ℕ) {r k : ℕ} (below : Forest) → Of G r k → has k M ≡ false → FreeOver G M n below
    → FreeOver G M n (node r below end)
free-node G M n {r} below o e F = record { none = none }
  where
    none : (l : ℕ) → has l M ≡ true → Has G l n (node r below end) → ⊥
    none l d (has_here p q) = true≢false (sym d ∙ ap (λ (x : ℕ). has x M) (of-same-left p o) ∙ e)
    none l d (has_below h) = F.none l d h
    none l d (has_beside h) = elim h [ ]

pub row→tree : (G : Cfg) {bytes : ℕ → ℕ → Type 0} {r k a b : ℕ} {below : Forest} (o : Of G r k) → RowOver G bytes o.the.places a b below
    → RowOver G bytes (nonterminal k ∷ []) a b (node r below end)
unfolding yield
row→tree G {bytes} {a = a} {b} {below} o R = record {
  fitted = fits_node o R.fitted fits_end;
  reads = subst (Reads bytes b a) (sym (append-nil (yield below))) R.reads;
}

module _ (G : Cfg) {fit : Fit} {bytes : ℕ → ℕ → Type 0} (tells : Tells fit bytes) (M i j : ℕ) (full : ℕ → ℕ)
    (least : Cost) (inside : Inside G bytes i j least) (sound : Sound G bytes M i j full) where
  -- the cost of a rule is reached
  pub rule-sound : {r k v : ℕ} (o : Of G r k) → has k M ≡ false → Lowest (NodeCost fit full least o.the.places i j) v
      → SoundAt G bytes M i j k v
  unfolding nodes
  rule-sound {r} {k} {v} o e L = record {
    reached = λ l.
        let p = L.reached l in
        let (f, (R, F), m) = cut→row G tells M i j full least inside sound p.cut (omega arith) (omega arith) in
        (node r f end, (row→tree G o R, free-node G M (j - i) f o e F), omega arith);
  }

  -- the rules of a nonterminal without a tree cost too many nodes
  pub rule-barren : {r k u : ℕ} (o : Of G r k) → ((t : Forest) → TreeOver G bytes k i j t → ⊥)
      → NodeCost fit full least o.the.places i j u → too_many ≤ u
  rule-barren {r} {u = u} o n p = dite (dec_lt u too_many)
      (λ l.
      let (f, F, m) = cut→row G tells M i j full least inside sound p.cut (omega arith) (omega arith) in
      absurd (n (node r f end) (row→tree G o F.0)))
      (λ l. omega arith)

  module _ (stable : Stable G fit M i j full least) where
    -- a tree of at most N nodes has no fewer than the number says
    lower : (N k : ℕ) (t : Forest) → Fits G (nonterminal k ∷ []) t → Reads bytes j i (yield t) → FreeOver G M (j - i) t → nodes t ≤ N
        → full k ≤ nodes t
    unfolding nodes yield
    lower zero k _ (fits_node o g fits_end) r F l = absurd (omega arith)
    lower (suc N) k _ (fits_node {r = n} {below = below} o g fits_end) r F l = go (has k M) refl
        (row→cut G tells M i j full least inside N (λ m t T s. lower N m t T.0.fitted T.0.reads T.1 s) g i
        (subst (Reads bytes j i) (append-nil (yield below)) r) (record { none = λ m e h. F.none m e (has_below h) })
        (omega arith) (omega arith))
      where
        go : (b : Bool) → has k M ≡ b → (u : ℕ) × Cut fit (within i j full least) j o.the.places i u × (u ≤ nodes below)
            → full k ≤ suc (nodes below + 0)
        go true e _ = absurd (F.none k e (tree-whole (fits_node o g fits_end) (omega (arith, reads-length r))))
        go false e (u, c, m) = let h = stable.settled n k o e (suc u) (record { under = u; cut = c; sum = refl }) in omega arith

    pub solved : Full G bytes M i j full
    solved = record {
      at = λ k. least_by (stable.capped k) (sound k).reached
          (λ t T. lower (nodes t) k t T.0.fitted T.0.reads T.1 (omega arith));
    }
