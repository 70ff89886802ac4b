-- The steps of a row, with premises as its code gives them. Assumes nothing.
use Prim.Native.Nat.{ℕ, suc, ◌+◌, ◌*◌, ◌-◌, ◌≤◌, ◌<◌}
use mathlib.Core.Bool.{true, false}
use mathlib.Core.List.{List, [], ◌∷◌}
use mathlib.Core.Path.{◌≡◌, sym, ap, subst, ◌∙◌}
use native.Mathlib.Omega.{arith}
use lib.ListN.{get_or}
use Rattle.sizes.specs.Sizes.{side, max_nodes, max_places}
use Rattle.chart.specs.Cell.{fits_at}
use Rattle.cfg.specs.Grammar.{Symbol, nonterminal, terminal}
use Rattle.theory_costs.specs.Cut.{LeastCut, within}
use Rattle.theory_enumeration.specs.Rows.{Row, Tree, SameSpan}
use Rattle.theory_enumeration.specs.Order.{Min}
use Rattle.theory_choices.specs.SpanCosts.{Rests}
use Rattle.theory_choices.proofs.Row.{end-reached, terminal-fits, terminal-rest, end-exists, end_step, leaf-step, child-least, row_step}
use Rattle.packed.specs.Packed.{place_count, is_nonterminal_in, value_in, terminal_in, symbol_in}
use Rattle.packed.proofs.Laws.{count-le, places-step, places-end}
use Rattle.packed.proofs.Fitting.{symbol-nonterminal, symbol-terminal}
use Rattle.table_layout.specs.Layout.{cost_in, full_in}
use Rattle.table_layout.specs.Exact.{Packing}
use Rattle.table_suffix.specs.Within.{tail_in, row_at}
use Rattle.tree_choose.specs.declared.look.Step.TheVariants.{No, End, Byte, Node}
use Rattle.tree_choose.specs.Chosen.{EndChosen}
use Rattle.tree_choose.specs.Looked.{Looked, at_end, at_byte, no_byte, at_node, no_node}
use Rattle.tree_first.specs.Descend.{BelowGiven, FirstAt, NodeFirst, RowFirst}
use Rattle.tree_first.proofs.Codes.{first-none, kept-none, first_same, kept-join, first-join}

module _ (p : List ℕ) (r q : ℕ) (c : q < place_count p r) where
  -- the places from q on begin with the symbol of place q
  tail-cons : (s : Symbol) → symbol_in p r q ≡ s → tail_in p r q ≡ s ∷ tail_in p r (q + 1)
  tail-cons s e =
      let i : suc q ≡ q + 1 = omega arith in
      places-step p r q c ∙ ap (λ (x : Symbol). x ∷ tail_in p r (suc q)) e ∙ ap (λ (x : ℕ). s ∷ tail_in p r x) i

  pub tail-terminal : is_nonterminal_in p r q ≡ false → tail_in p r q ≡ terminal (terminal_in p r q) ∷ tail_in p r (q + 1)
  tail-terminal n = tail-cons (terminal (terminal_in p r q)) (symbol-terminal p r q n)

  pub tail-nonterminal : {k : ℕ} → is_nonterminal_in p r q ≡ true → k ≡ value_in p r q → tail_in p r q ≡ nonterminal k ∷ tail_in p r (q + 1)
  tail-nonterminal {k} n e = tail-cons (nonterminal k) (symbol-nonterminal p r q n ∙ ap (λ (x : ℕ). nonterminal x) (sym e))

module _ {p : List ℕ} {rules : ℕ} {fits chart tables full rows : List ℕ} {r i j mask : ℕ} (q a budget : ℕ) (h : i ≤ a) (l : a ≤ j)
    (room : budget ≤ max_nodes) where
  module _ {w : List ℕ} (B : BelowGiven p rules fits chart tables full rows r i j mask w) where
    -- the least cost of the places from q on, written as another list
    cost-of : {places : List Symbol} → tail_in p r q ≡ places → q ≤ place_count p r
        → LeastCut (fits_at w) (within i j (full_in full) (cost_in tables)) places a j (get_or rows (row_at 0 q a) 0)
    cost-of e c =
        subst (λ (s : List Symbol). LeastCut (fits_at w) (within i j (full_in full) (cost_in tables)) s a j (get_or rows (row_at 0 q a) 0)) e
        (B.costs q a c h l)

    -- the least costs of the places after q, for each start
    pub rests : q < place_count p r → Rests (fits_at w) (within i j (full_in full) (cost_in tables)) (tail_in p r (q + 1)) a j
        (λ (c : ℕ). get_or rows (side * (q + 1) + c) 0)
    rests c x m n =
        let e : row_at 0 (q + 1) x ≡ side * (q + 1) + x = omega arith in
        subst (λ (z : ℕ). LeastCut (fits_at w) (within i j (full_in full) (cost_in tables)) (tail_in p r (q + 1)) x j (get_or rows z 0)) e
        (B.costs (q + 1) x (omega arith) (omega arith) n)

    -- if nothing comes next, the least cost is more than the budget
    none_within : Looked p r q tables full rows i a j budget No → get_or rows (row_at 0 q a) 0 ≤ budget → ⊥
    none_within (no_byte c n m) v =
        let (x, _) = terminal-fits (cost-of (tail-terminal p r q c n) (omega arith)) v (omega arith) in
        omega arith
    none_within (no_node {k} {b} c n e C m) v =
        let (x, y, z, u) = end-exists (rests c) (cost-of (tail-nonterminal p r q c n e) (omega arith)) v (omega arith) in
        let d = C.early.beyond x y (omega arith) z in
        omega arith

  -- ---- nothing, and the end

  pub row-none : {at : ℕ} {out : List ℕ} → Looked p r q tables full rows i a j budget No
      → RowFirst p rules fits chart tables full rows r q a i j mask budget at out out 0
  row-none L = record { kept = kept-none; exact = λ w B c v. absurd (none_within B L v) }

  pub row-end : {at : ℕ} {out : List ℕ} → Looked p r q tables full rows i a j budget End
      → RowFirst p rules fits chart tables full rows r q a i j mask budget at out out 0
  row-end {at} {out} (at_end m) = record {
    kept = kept-none;
    exact = λ w B c v.
        let d : tail_in p r q ≡ [] = places-end p r q m in
        subst (λ (s : List Symbol). FirstAt (Row (Packing p) w (j - i) mask s a j budget) out at 0) (sym d)
        (first-none (end_step B.solved budget (end-reached (cost-of B d c) v (omega arith))));
  }

  -- ---- a byte

  pub row-byte : {at : ℕ} {out₀ out : List ℕ} {n : ℕ} → Looked p r q tables full rows i a j budget Byte
      → RowFirst p rules fits chart tables full rows r (q + 1) (a + 1) i j mask budget at out₀ out n
      → RowFirst p rules fits chart tables full rows r q a i j mask budget at out₀ out n
  row-byte {at} {out = out} {n = n} (at_byte c t m) R = record {
    kept = R.kept;
    exact = λ w B _ v.
        let d = tail-terminal p r q c t in
        let C = cost-of B d (omega arith) in
        let s : a + 1 ≡ suc a = omega arith in
        let (x, f) = terminal-fits C v (omega arith) in
        let u : get_or rows (row_at 0 (q + 1) (a + 1)) 0 ≤ budget = terminal-rest C v (omega arith) s
        (B.costs (q + 1) (a + 1) (omega arith) (omega arith) (omega arith)) in
        subst (λ (z : List Symbol). FirstAt (Row (Packing p) w (j - i) mask z a j budget) out at n) (sym d)
        (first_same (λ y M. leaf-step B.solved s x f M) (R.exact w B (omega arith) u));
  }

  -- ---- a node and the places after it

  module _ {k b share own m n at : ℕ} {out₀ out₁ out : List ℕ} (s : SameSpan (j - i) mask (b - a) own)
      (N : NodeFirst p rules fits chart tables k a b own share at out₀ out₁ m)
      (R : RowFirst p rules fits chart tables full rows r (q + 1) b i j mask (budget - m) (at + m) out₁ out n) where
    node-and-row : (w : List ℕ) → BelowGiven p rules fits chart tables full rows r i j mask w → q < place_count p r
        → EndChosen tables full k i a a j rows (side * (q + 1)) budget b → b ≤ j → share ≡ budget - get_or rows (side * (q + 1) + b) 0
        → FirstAt (Row (Packing p) w (j - i) mask (nonterminal k ∷ tail_in p r (q + 1)) a j budget) out at (m + n)
    node-and-row w B c C x e =
        let f = C.fits x in
        let y = C.start in
        let g = N.kept.few in
        let d : row_at 0 (q + 1) b ≡ side * (q + 1) + b = omega arith in
        let g2 : get_or rows (row_at 0 (q + 1) b) 0 ≡ get_or rows (side * (q + 1) + b) 0 = ap (λ (z : ℕ). get_or rows z 0) d in
        let known = B.solved.known in
        let F = N.exact w B.given (omega arith) (within i j (full_in full) (cost_in tables) k a b)
        (child-least B.solved h y x s) (omega arith) in
        let L = R.exact w B (omega arith) (omega arith) in
        first-join F L R.kept (λ u v M size Q. row_step B.solved m h y x (rests B c)
        (λ z α β. C.early.beyond z α β (omega arith)) s
        (subst (λ (z : ℕ). Min (Tree (Packing p) w (b - a) own k a b z) u) e M) size Q)

    pub row-node : Looked p r q tables full rows i a j budget (Node k b share)
        → RowFirst p rules fits chart tables full rows r q a i j mask budget at out₀ out (m + n)
    row-node (at_node c t g C x f) = record {
      kept = kept-join (omega arith) N.kept R.kept;
      exact = λ w B _ _.
          subst (λ (z : List Symbol). FirstAt (Row (Packing p) w (j - i) mask z a j budget) out at (m + n))
          (sym (tail-nonterminal p r q c t g)) (node-and-row w B c C x f);
    }

module _ {p : List ℕ} {r q : ℕ} {tables full rows : List ℕ} {i a j budget : ℕ} where
  -- the place and the position that come next are within their limits
  pub byte-room : Looked p r q tables full rows i a j budget Byte → (q < max_places) × (a < j)
  byte-room (at_byte c t m) = (omega (arith, count-le p r), m)

  pub node-room : {k b share : ℕ} → Looked p r q tables full rows i a j budget (Node k b share)
      → (q < max_places) × (a ≤ b) × (b ≤ j) × (share ≤ budget)
  node-room (at_node c t g C x f) = (omega (arith, count-le p r), C.start, x, omega arith)
