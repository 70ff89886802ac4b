-- From numbers to trees: if the costs are least numbers of nodes, the least cost of cutting is the least number of nodes of a forest for
-- the places. Each half needs less. A forest for each cut needs that each cost is reached by a tree. A cut for each forest needs that no
-- tree of at most N nodes is below its cost. Assumes nothing.
use Prim.Native.Nat.{ℕ, suc, ◌+◌, ◌-◌, ◌≤◌, ◌<◌}
use mathlib.Core.Bool.{true}
use mathlib.Core.List.{List, [], ◌∷◌, ◌++◌, append-nil}
use mathlib.Core.Logic.{◌⊎◌, inl, inr, ⊎_elim}
use mathlib.Core.Path.{◌≡◌, refl, sym, ap, subst}
use native.Mathlib.Omega.{arith}
use lib.ListN.{length}
use Rattle.sizes.specs.Sizes.{too_many}
use Rattle.sets.specs.Set.{has}
use Rattle.cfg.specs.Grammar.{Cfg, Symbol, nonterminal}
use Rattle.cfg.specs.Tree.{Forest, end, leaf, node, yield, nodes, Fits, fits_end, fits_leaf, fits_node}
use Rattle.cfg.specs.Derivation.{Has, has_here, has_below, has_beside, has_after}
use Rattle.cfg.proofs.Has.{has_within}
use Rattle.chart.specs.Cell.{Fit}
use Rattle.theory_costs.specs.Cut.{Cost, Cut, cut_end, cut_leaf, cut_node, LeastCut, within}
use Rattle.theory_costs.specs.Span.{Tells, Reads, reads_end, reads_byte, FreeOver, TreeOver, FreeRow, FreeTree, Least, Inside, Full}
use Rattle.theory_costs.specs.Solve.{Sound}
use Rattle.theory_costs.proofs.Span.{reads-length, reads-append, reads-split, least_by, least-reached, least-below}
use Rattle.theory_costs.proofs.Within.{within-cases}

-- ---- a tree in front of a forest

-- the tree t and the forest g as one forest
pub record Joined (G : Cfg) (k : ℕ) (places : List Symbol) (t g : Forest) : Type 0 where
  pub row : Forest
  pub fitted : Fits G (nonterminal k ∷ places) row
  pub yields : yield row ≡ yield t ++ yield g
  pub counts : nodes row ≡ nodes t + nodes g
  pub from : (l n : ℕ) → Has G l n row → Has G l n t ⊎ Has G l n g

pub join : (G : Cfg) {k : ℕ} {places : List Symbol} {t g : Forest} → Fits G (nonterminal k ∷ []) t → Fits G places g
    → Joined G k places t g
unfolding yield nodes
join G {g = g} (fits_node {r = r} {below = below} o f fits_end) s = record {
  row = node r below g;
  fitted = fits_node o f s;
  yields = ap (λ (x : List ℕ). x ++ yield g) (sym (append-nil (yield below)));
  counts = omega arith;
  from = from;
}
  where
    from : (l n : ℕ) → Has G l n (node r below g) → Has G l n (node r below end) ⊎ Has G l n g
    from l n (has_here p e) = inl (has_here p e)
    from l n (has_below h) = inl (has_below h)
    from l n (has_beside h) = inr h

pub free-leaf : (G : Cfg) (M n m : ℕ) (f : Forest) → FreeOver G M n f → FreeOver G M n (leaf m f)
free-leaf G M n m f F = record { none = none }
  where
    none : (k : ℕ) → has k M ≡ true → Has G k n (leaf m f) → ⊥
    none k e (has_after h) = F.none k e h

-- the first tree of a forest
pub free-first : (G : Cfg) (M n r : ℕ) (below rest : Forest) → FreeOver G M n (node r below rest) → FreeOver G M n (node r below end)
free-first G M n r below rest F = record { none = none }
  where
    none : (k : ℕ) → has k M ≡ true → Has G k n (node r below end) → ⊥
    none k e (has_here p q) = F.none k e (has_here p q)
    none k e (has_below h) = F.none k e (has_below h)
    none k e (has_beside h) = elim h [ ]

module _ (G : Cfg) {fit : Fit} {bytes : ℕ → ℕ → Type 0} (tells : Tells fit bytes) (M i j : ℕ) (full : ℕ → ℕ)
    (least : Cost) (inside : Inside G bytes i j least) where
  -- ---- a forest for each cut

  module _ (sound : Sound G bytes M i j full) where
    piece→tree : (k a c : ℕ) → i ≤ a → a ≤ c → c ≤ j → within i j full least k a c < too_many
        → (t : Forest) × FreeTree G bytes M (j - i) k a c t × (nodes t ≤ within i j full least k a c)
    piece→tree k a c h l m = within-cases i j full least k
        (λ (x : ℕ). x < too_many → (t : Forest) × FreeTree G bytes M (j - i) k a c t × (nodes t ≤ x)) a c h l m
        (λ e d q. rw (e, d) ((sound k).reached q))
        (λ n q.
        let (t, T, s) = least-reached (inside.at k a c h l m n) q in
        (t, (T, record { none = λ _ _ z. omega (arith, has_within z, reads-length T.reads) }), s))

    pub cut→row : {places : List Symbol} {a u : ℕ} → Cut fit (within i j full least) j places a u → i ≤ a → u < too_many
        → (f : Forest) × FreeRow G bytes M (j - i) places a j f × (nodes f ≤ u)
    unfolding yield nodes
    cut→row (cut_end e) h l = (end, (record { fitted = fits_end; reads = reads_end e }, record { none = λ k d i. elim i [ ] }), omega arith)
    cut→row (cut_leaf {t} {a = a} m q c) h l =
        let (f, (R, F), s) = cut→row c (omega arith) l in
        let (x, p, e) = (tells a t).0 q in
        (leaf x f, (record { fitted = fits_leaf e R.fitted; reads = reads_byte p R.reads }, free-leaf G M (j - i) x f F), s)
    cut→row (cut_node {k} {a = a} {v = v} c m m' d e) h l =
        let (f, (R, F), s) = cut→row d (omega arith) (omega arith) in
        let (t, (T, E), s') = piece→tree k a c h m m' (omega arith) in
        let J = join G T.fitted R.fitted in
        let n = J.counts in (
          J.row,
          (
            record { fitted = J.fitted; reads = subst (Reads bytes j a) (sym J.yields) (reads-append T.reads R.reads) },
            record { none = λ x y z. ⊎_elim (E.none x y) (F.none x y) (J.from x (j - i) z) },
          ),
          omega arith,
        )

  -- ---- a cut for each forest

  module _ (N : ℕ) (lower : (k : ℕ) (t : Forest) → FreeTree G bytes M (j - i) k i j t → nodes t ≤ N → full k ≤ nodes t) where
    tree→piece : (k a c : ℕ) (t : Forest) → i ≤ a → a ≤ c → c ≤ j → FreeTree G bytes M (j - i) k a c t → nodes t ≤ N
        → within i j full least k a c ≤ nodes t
    tree→piece k a c t h l m T s = within-cases i j full least k (λ (x : ℕ). x ≤ nodes t) a c h l m
        (λ e d. lower k t (rw (e, d) at T) s)
        (λ q. least-below (inside.at k a c h l m q) t T.0)

    pub row→cut : {places : List Symbol} {f : Forest} → Fits G places f → (a : ℕ) → Reads bytes j a (yield f) → FreeOver G M (j - i) f
        → i ≤ a → nodes f ≤ N → (u : ℕ) × Cut fit (within i j full least) j places a u × (u ≤ nodes f)
    unfolding yield nodes
    row→cut fits_end a (reads_end e) F h s = (0, cut_end e, omega arith)
    row→cut (fits_leaf {t} q f) a (reads_byte {m = m} p r) F h s =
        let (u, c, l) = row→cut f (suc a) r (record { none = λ k e z. F.none k e (has_after z) }) (omega arith) s in
        let b : a < j = omega (arith, reads-length r) in
        (u, cut_leaf b ((tells a t).1 (m, p, q)) c, l)
    row→cut (fits_node {k} {r = n} {below = below} {rest = rest} o g f) a r F h s =
        let (x, y) = reads-split (yield below) (yield rest) r in
        let c = a + length (yield below) in
        let l : c ≤ j = omega (arith, reads-length y) in
        let T : TreeOver G bytes k a c (node n below end) =
        record { fitted = fits_node o g fits_end; reads = subst (Reads bytes c a) (sym (append-nil (yield below))) x } in
        let (u, d, m) = row→cut f c y (record { none = λ k e z. F.none k e (has_beside z) }) (omega arith) (omega arith) in
        let b = tree→piece k a c (node n below end) h (omega arith) l (T, free-first G M (j - i) n below rest F) (omega arith) in
        (within i j full least k a c + u, cut_node {a = a} c (omega arith) l d refl, omega arith)

  -- ---- the least cost is the least number of nodes

  pub leastcut-least : Full G bytes M i j full → {places : List Symbol} {a v : ℕ} → i ≤ a
      → LeastCut fit (within i j full least) places a j v → Least (FreeRow G bytes M (j - i) places a j) v
  leastcut-least exact {places} {a} {v} h L = least_by L.capped
      (λ l. cut→row (λ k. record { reached = least-reached (exact.at k) }) (L.reached l) h l)
      (λ f R.
      let (u, c, m) = row→cut (nodes f) (λ k t T _. least-below (exact.at k) t T) R.0.fitted a R.0.reads R.1 h (omega arith) in
      let b = L.below u c in
      omega arith)
