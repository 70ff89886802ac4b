-- A wider node at a place of a rule, and the row after a node, with premises as the code gives them. Assumes nothing.
use Prim.Native.Nat.{ℕ, ◌+◌, ◌*◌, ◌-◌, ◌≤◌, ◌<◌}
use mathlib.Core.List.{List, ◌∷◌, ◌++◌}
use mathlib.Core.Path.{◌≡◌, refl, ap, subst}
use native.Mathlib.Omega.{arith}
use lib.ListN.{get_or, length-append}
use Rattle.sizes.specs.Sizes.{side}
use Rattle.cfg.specs.Grammar.{nonterminal}
use Rattle.cfg.specs.Tree.{Forest, nodes, code}
use Rattle.theory_costs.specs.Cut.{within}
use Rattle.chart.specs.Cell.{fits_at}
use Rattle.theory_enumeration.specs.Rows.{Row, Tree, SameSpan}
use Rattle.theory_enumeration.specs.Order.{Min, Last}
use Rattle.theory_choices.specs.SpanCosts.{Rests}
use Rattle.theory_choices.specs.Opened.{OpenedRow}
use Rattle.theory_choices.proofs.Row.{child-least}
use Rattle.theory_choices.proofs.NextRow.{cover-widens, row_ends}
use Rattle.packed.specs.Packed.{place_count}
use Rattle.table_layout.specs.Layout.{cost_in, full_in}
use Rattle.table_layout.specs.Exact.{Packing}
use Rattle.table_suffix.specs.Within.{tail_in, row_at}
use Rattle.tree_choose.specs.Chosen.{EndChosen}
use Rattle.tree_first.specs.Descend.{BelowGiven, FirstAt, NodeFirst, RowFirst}
use Rattle.tree_first.proofs.Codes.{kept-none, kept-join, stands-join, first-stands}
use Rattle.tree_first.proofs.RowSteps.{rests}
use Rattle.tree_later.specs.Beyond.{AfterAt}
use Rattle.tree_later.proofs.Codes.{first-nonempty, kept_then, next-none, next-some}
use Rattle.tree_later.proofs.Frames.{made-below}
use Rattle.tree_widen.specs.Wider.{Widened, Moved}

module _ {p : List ℕ} {rules : ℕ} {fits chart tables full rows : List ℕ} {r i j mask : ℕ} {w : List ℕ}
    (B : BelowGiven p rules fits chart tables full rows r i j mask w) (q : ℕ) (c : q < place_count p r) where
  -- the least costs of the places after place q, for each start
  pub all-rests : {a : ℕ} → i ≤ a → a ≤ j → Rests (fits_at w) (within i j (full_in full) (cost_in tables)) (tail_in p r (q + 1)) a j
      (λ (x : ℕ). get_or rows (side * (q + 1) + x) 0)
  all-rests {a} h l = rests q a 0 h l (omega arith) B c

  -- the first row of those places from e on
  pub rest-first : {e share at s : ℕ} {buf₀ buf : List ℕ}
      → RowFirst p rules fits chart tables full rows r (q + 1) e i j mask share at buf₀ buf s → get_or rows (side * (q + 1) + e) 0 ≤ share
      → FirstAt (Row (Packing p) w (j - i) mask (tail_in p r (q + 1)) e j share) buf at s
  rest-first {e} R d =
      let f : row_at 0 (q + 1) e ≡ side * (q + 1) + e = omega arith in
      let g : get_or rows (row_at 0 (q + 1) e) 0 ≡ get_or rows (side * (q + 1) + e) 0 = ap (λ (z : ℕ). get_or rows z 0) f in
      R.exact w B (omega arith) (omega arith)

module _ {p : List ℕ} {rules : ℕ} {fits chart tables full rows : List ℕ} {r q k a b i j mask budget at : ℕ} (h : i ≤ a) (l : a ≤ b)
    (m : b ≤ j) where
  -- ---- a wider node

  pub widen_none : {e : ℕ} {buf : List ℕ} → EndChosen tables full k i a (b + 1) j rows (side * (q + 1)) budget e → j < e
      → Widened p rules fits chart tables full rows r q k a b i j mask budget at buf buf 0
  widen_none C d = record {
    kept = kept-none;
    exact = λ M w G known c f x y o last own s child.
        let B = made-below G (omega arith) known M in
        next-none (row_ends B.solved h (all-rests B q c h (omega arith)) o s refl last child
        (λ z u v. C.early.beyond z (omega arith) (omega arith) v));
  }

  module _ {e inner v n : ℕ} {buf₀ buf₁ : List ℕ} (C : EndChosen tables full k i a (b + 1) j rows (side * (q + 1)) budget e)
      (d : e ≤ j) (S : SameSpan (j - i) mask (e - a) inner) (g : v ≡ get_or rows (side * (q + 1) + e) 0)
      (N : NodeFirst p rules fits chart tables k a e inner (budget - v) at buf₀ buf₁ n) where
    module _ {w : List ℕ} (B : BelowGiven p rules fits chart tables full rows r i j mask w) (c : q < place_count p r) where
      wider-first : FirstAt (Tree (Packing p) w (e - a) inner k a e (budget - v)) buf₁ at n
      wider-first =
          let f = C.fits d in
          let u = C.start in
          let t = B.solved.known in
          N.exact w B.given (omega arith) (within i j (full_in full) (cost_in tables) k a e)
          (child-least B.solved h (omega arith) d S) (omega arith)

    -- a node has nodes, so this case does not arise
    pub widen-empty : n ≡ 0 → Widened p rules fits chart tables full rows r q k a b i j mask budget at buf₀ buf₁ 0
    widen-empty z = record {
      kept = kept_then z N.kept kept-none;
      exact = λ M w G known c f x y o last own t child.
          let B = made-below G (omega arith) known M in
          let F = wider-first B c in
          absurd (omega (arith, first-nonempty F.first F.size));
    }

    module _ {s : ℕ} {buf : List ℕ}
        (R : RowFirst p rules fits chart tables full rows r (q + 1) e i j mask (budget - n) (at + n) buf₁ buf s) where
      wider-rest : {w : List ℕ} (B : BelowGiven p rules fits chart tables full rows r i j mask w) → q < place_count p r
          → FirstAt (Row (Packing p) w (j - i) mask (tail_in p r (q + 1)) e j (budget - n)) buf (at + n) s
      wider-rest B c =
          let f = C.fits d in
          let u = C.start in
          rest-first B q c R (omega (arith, N.kept.few))

      wider-after : {w : List ℕ} {f x y : Forest} {own : ℕ} (B : BelowGiven p rules fits chart tables full rows r i j mask w)
          (c : q < place_count p r) → OpenedRow (Packing p) w (j - i) mask k (tail_in p r (q + 1)) a j budget f b x y
          → Last (Row (Packing p) w (j - i) mask (tail_in p r (q + 1)) b j (budget - nodes x)) (code y) → SameSpan (j - i) mask (b - a) own
          → Last (Tree (Packing p) w (b - a) own k a b (budget - get_or rows (side * (q + 1) + b) 0)) (code x)
          → AfterAt (Row (Packing p) w (j - i) mask (nonterminal k ∷ tail_in p r (q + 1)) a j budget) (code f) buf at (n + s)
      wider-after {w} B c o last own child =
          let F = wider-first B c in
          let L = wider-rest B c in
          let u = C.start in
          record {
            numbers = F.code ++ L.code;
            after = cover-widens B.solved h (all-rests B q c h (omega arith)) o own refl last child n (omega arith) d
                (λ z x y. C.early.beyond z (omega arith) y (omega arith)) S
                (subst (λ (z : ℕ). Min (Tree (Packing p) w (e - a) inner k a e (budget - z)) F.code) g F.first) F.size L.first;
            size = omega (arith, length-append F.code L.code, F.size, L.size);
            here = stands-join buf₁ buf at n F.code L.code F.size (first-stands F) (first-stands L) R.kept.before;
          }

      pub widen-some : Widened p rules fits chart tables full rows r q k a b i j mask budget at buf₀ buf (n + s)
      widen-some = record {
        kept = kept-join (omega arith) N.kept R.kept;
        exact = λ M w G known c f x y o last own t child.
            let B = made-below G (omega arith) known M in
            let F = wider-first B c in
            next-some (omega (arith, first-nonempty F.first F.size)) (wider-after B c o last t child);
      }
