-- The steps of a node at a place of a rule, with premises as the code gives them: it moves, or a wider one is written, or it is last.
-- Assumes nothing.
use Prim.Native.Nat.{ℕ, ◌+◌, ◌*◌, ◌-◌, ◌≤◌, ◌<◌}
use mathlib.Core.List.{List, ◌++◌}
use mathlib.Core.Path.{◌≡◌, refl, sym, subst}
use native.Mathlib.Decide.{ℕ_discrete}
use native.Mathlib.Omega.{arith}
use lib.ListN.{length, get_or, length-append}
use Rattle.sizes.specs.Sizes.{side}
use Rattle.cfg.specs.Tree.{Forest, code}
use Rattle.theory_enumeration.specs.Rows.{Tree, SameSpan}
use Rattle.theory_choices.specs.Opened.{OpenedRow}
use Rattle.theory_choices.proofs.NextRow.{rest-within, child-stands, child-moves}
use Rattle.packed.specs.Packed.{place_count}
use Rattle.tree_size.specs.Standing.{StandsAt}
use Rattle.table_layout.specs.Exact.{Packing}
use Rattle.table_suffix.specs.Within.{tail_in}
use Rattle.tree_first.specs.Descend.{InputGiven, RowFirst}
use Rattle.tree_first.proofs.Codes.{kept-none, kept-join, stands-join, first-stands}
use Rattle.tree_later.specs.Beyond.{RestMade, NextAt}
use Rattle.tree_widen.specs.Wider.{Moved}
use Rattle.tree_widen.proofs.WiderNodes.{all-rests, rest-first}
use Rattle.tree_next.specs.Advance.{NodeNext, ChildNext}
use Rattle.tree_later.proofs.Codes.{kept_then, next-some}
use Rattle.tree_later.proofs.Frames.{made-frame, made-below}

module _ {p : List ℕ} {rules : ℕ} {fits chart tables full rows : List ℕ} {r q k a b i j mask budget at : ℕ} (h : i ≤ a) (l : a ≤ b)
    (m : b ≤ j) where
  module _ {rest : ℕ} (M : RestMade p rules fits chart tables r i j mask q b full rows rest) where
    -- the places after the node in the buffer are within the budget, so this case does not arise
    pub child-dear : {buf : List ℕ} → budget < rest
        → ChildNext p rules fits chart tables r q k a b i j mask budget at buf full rows buf 0
    child-dear d = record {
      kept = kept-none;
      frame = made-frame M.made;
      exact = λ w G known c f x y o last S.
          let B = made-below G (omega arith) known M.made in
          let z = rest-within B.solved h (all-rests B q c h (omega arith)) o in
          let e = M.here in
          absurd (omega arith);
    }

    module _ {own n : ℕ} {buf₀ buf₁ : List ℕ} (d : rest ≤ budget) (S : SameSpan (j - i) mask (b - a) own)
        (N : NodeNext p rules fits chart tables k a b own (budget - rest) at buf₀ buf₁ n) where
      -- what comes after the node in the buffer, within what the least rest leaves
      child-next : {w : List ℕ} {f x y : Forest} → InputGiven p rules fits chart tables w → j ≤ length w → q < place_count p r
          → OpenedRow (Packing p) w (j - i) mask k (tail_in p r (q + 1)) a j budget f b x y → StandsAt buf₀ at (code x)
          → NextAt (Tree (Packing p) w (b - a) own k a b (budget - get_or rows (side * (q + 1) + b) 0)) (code x) buf₁ at n
      child-next {w} {x = x} G known c o T =
          let B = made-below G (omega arith) known M.made in
          let X = child-stands B.solved h (all-rests B q c h (omega arith)) o S in
          subst (λ (z : ℕ). NextAt (Tree (Packing p) w (b - a) own k a b (budget - z)) (code x) buf₁ at n) M.here
          (N.exact w G (omega arith) x
          (subst (λ (z : ℕ). Tree (Packing p) w (b - a) own k a b (budget - z) x) (sym M.here) X) T)

      child-rest : {buf : List ℕ} {s : ℕ} → 0 < n
          → RowFirst p rules fits chart tables full rows r (q + 1) b i j mask (budget - n) (at + n) buf₁ buf s
          → ChildNext p rules fits chart tables r q k a b i j mask budget at buf₀ full rows buf (n + s)
      child-rest {buf} {s} e R = record {
        kept = kept-join (omega arith) N.kept R.kept;
        frame = made-frame M.made;
        exact = λ w G known c f x y o last T.
            let B = made-below G (omega arith) known M.made in
            let A = (child-next G known c o T).some e in
            let here = M.here in
            let L = rest-first B q c R (omega (arith, N.kept.few)) in
            next-some (omega arith) (record {
              numbers = A.numbers ++ L.code;
              after = child-moves B.solved h (all-rests B q c h (omega arith)) o S refl last n A.after A.size L.first;
              size = omega (arith, length-append A.numbers L.code, A.size, L.size);
              here = stands-join buf₁ buf at n A.numbers L.code A.size A.here (first-stands L) R.kept.before;
            });
      }

      pub child-moved : {buf : List ℕ} {v : ℕ}
          → Moved p rules fits chart tables full rows r q k a b i j mask budget at n buf₁ buf v
          → ChildNext p rules fits chart tables r q k a b i j mask budget at buf₀ full rows buf v
      child-moved {buf} {v} Q = go (ℕ_discrete n 0)
        where
          go : Dec (n ≡ 0) → ChildNext p rules fits chart tables r q k a b i j mask budget at buf₀ full rows buf v
          go (yes e) = let W = Q.wider e in record {
            kept = kept_then e N.kept W.kept;
            frame = made-frame M.made;
            exact = λ w G known c f x y o last T.
                W.exact M.made w G known c f x y o last own S ((child-next G known c o T).none e);
          }
          go (no e) =
              let z : ¬ (n ≡ 0) = e in
              let (s, g, R) = Q.rest (omega arith) in
              subst (λ (z : ℕ). ChildNext p rules fits chart tables r q k a b i j mask budget at buf₀ full rows buf z) (sym g)
              (child-rest (omega arith) R)
