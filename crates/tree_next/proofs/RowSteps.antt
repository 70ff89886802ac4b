-- The steps of a row, with premises as its code gives them. Assumes nothing.
use Prim.Native.Nat.{ℕ, ◌+◌, ◌-◌, ◌≤◌, ◌<◌}
use mathlib.Core.List.{List, ◌++◌}
use mathlib.Core.Path.{◌≡◌, sym, subst}
use native.Mathlib.Omega.{arith}
use lib.ListN.{length, length-append}
use Rattle.sizes.specs.Sizes.{max_nodes}
use Rattle.cfg.specs.Tree.{Forest, nodes, code}
use Rattle.theory_enumeration.specs.Rows.{Row}
use Rattle.theory_enumeration.specs.Order.{Last}
use Rattle.theory_choices.specs.Opened.{OpenedRow}
use Rattle.theory_choices.proofs.NextRow.{end-ends, leaf-moves, leaf-ends, rest-moves}
use Rattle.packed.proofs.Laws.{places-end}
use Rattle.tree_size.specs.Standing.{StandsAt}
use Rattle.table_layout.specs.Exact.{Packing}
use Rattle.table_suffix.specs.Within.{tail_in}
use Rattle.tree_first.proofs.Codes.{kept-none, stands-join}
use Rattle.tree_first.proofs.RowSteps.{tail-terminal, tail-nonterminal}
use Rattle.tree_read.specs.declared.look.Step.TheVariants.{No, End, Byte, Final, Node}
use Rattle.tree_read.specs.Looked.{BufferLooked, at_end, at_byte, at_last, at_node}
use Rattle.tree_read.specs.Reached.{Ends}
use Rattle.tree_later.specs.Beyond.{Frame}
use Rattle.tree_next.specs.Advance.{RowNext, ChildNext}
use Rattle.tree_later.proofs.Codes.{stands_same, kept_same, kept-behind, kept_then, next-none, next-some, next-same}
use Rattle.tree_read.proofs.Places.{row_as, next-as, none-stands}
use Rattle.tree_next.proofs.Ending.{ends-byte, ends-others, ends-row, ends-here}
use Rattle.tree_read.proofs.Reading.{child-here, size-here, Passed, passed_here}

module _ {p : List ℕ} {rules : ℕ} {fits chart tables : List ℕ} {r i j mask q a budget at : ℕ} {buf₀ : List ℕ} (l : a ≤ j)
    (room : at + budget ≤ max_nodes) where
  -- ---- nothing, and the end

  pub row-none : {full rows : List ℕ} → Frame p rules fits chart tables r i j mask full rows → BufferLooked p r q buf₀ at a j budget No
      → RowNext p rules fits chart tables r q a i j mask budget at buf₀ full rows buf₀ 0
  row-none F L = record { kept = kept-none; frame = F; exact = λ w G known f R S E. absurd (none-stands l room L known R S) }

  pub row-end : {full rows : List ℕ} → Frame p rules fits chart tables r i j mask full rows → BufferLooked p r q buf₀ at a j budget End
      → RowNext p rules fits chart tables r q a i j mask budget at buf₀ full rows buf₀ 0
  row-end F (at_end m) = record {
    kept = kept-none;
    frame = F;
    exact = λ w G known f R S E.
        let d = places-end p r q m in
        next-as p r q d (next-none (end-ends known l (row_as p r q d R)));
  }

  -- ---- a byte

  pub row-byte : {full rows buf : List ℕ} {n : ℕ} → BufferLooked p r q buf₀ at a j budget Byte
      → RowNext p rules fits chart tables r (q + 1) (a + 1) i j mask budget at buf₀ full rows buf n
      → RowNext p rules fits chart tables r q a i j mask budget at buf₀ full rows buf n
  row-byte (at_byte c t m) N = record {
    kept = N.kept;
    frame = N.frame;
    exact = λ w G known f R S E.
        let (g, o, D) = ends-byte E c t in
        next-as p r q (tail-terminal p r q c t) (next-same (leaf-ends known o) (λ z. leaf-moves known o)
        (N.exact w G known g o.row (subst (StandsAt buf₀ at) (sym o.coded) S) D));
  }

  -- ---- a node with only terminals after it: it is last, and so is the row

  pub row_last : {k b : ℕ} {full rows : List ℕ} → Frame p rules fits chart tables r i j mask full rows
      → BufferLooked p r q buf₀ at a j budget (Final k b)
      → RowNext p rules fits chart tables r q a i j mask budget at buf₀ full rows buf₀ 0
  row_last F (at_last c m t g d u) =
      record { kept = kept-none; frame = F; exact = λ w G known f R S E. next-none (ends-row E c t m) }

  -- ---- a node at another place: the places after it move, or they are last

  module _ {k b s : ℕ} {full₁ rows₁ buf₁ : List ℕ} {n : ℕ}
      (N : RowNext p rules fits chart tables r (q + 1) b i j mask (budget - s) (at + s) buf₀ full₁ rows₁ buf₁ n) where
    -- the node in the buffer and the row after it, whose last node does not move
    behind : {w : List ℕ} {f : Forest} → j ≤ length w → StandsAt buf₀ at (code f) → Ends p w (j - i) mask r j q a budget f
        → BufferLooked p r q buf₀ at a j budget (Node k b s)
        → (P : Passed p w (j - i) mask r q k a j budget b s buf₀ at f) × Ends p w (j - i) mask r j (q + 1) b (budget - s) P.rest
    behind {w} {f} known S E (at_node c t g d M Z u v) =
        let (e, x, y, o', D) = ends-others E c t M g in
        let h = ends-here buf₀ at S o' d in
        let o = subst (λ (z : ℕ). OpenedRow (Packing p) w (j - i) mask k (tail_in p r (q + 1)) a j budget f z x y) h o' in (
          passed_here known Z S o room,
          subst (λ (v : ℕ). Ends p w (j - i) mask r j (q + 1) b (budget - v) y) (sym (size-here Z S o room))
              (subst (λ (z : ℕ). Ends p w (j - i) mask r j (q + 1) z (budget - nodes x) y) h D),
        )

    pub row-rest : BufferLooked p r q buf₀ at a j budget (Node k b s) → 0 < n
        → RowNext p rules fits chart tables r q a i j mask budget at buf₀ full₁ rows₁ buf₁ (s + n)
    row-rest (at_node c t g d M Z u v) m = record {
      kept = kept-behind v N.kept;
      frame = N.frame;
      exact = λ w G known f R S E.
          let (B, D) = behind known S E (at_node c t g d M Z u v) in
          let x = B.first in
          let A = (N.exact w G known B.rest B.row B.stands D).some m in
          next-as p r q (tail-nonterminal p r q c t g) (next-some (omega arith) (record {
            numbers = code x ++ A.numbers;
            after = rest-moves known B.opened B.count {e = A.numbers} A.after;
            size = omega (arith, length-append (code x) A.numbers, B.size, A.size);
            here = stands-join buf₀ buf₁ at s (code x) A.numbers B.size (child-here buf₀ at S B.opened) A.here
                N.kept.before;
          }));
    }

    pub row-child : {full rows buf : List ℕ} {m : ℕ} → BufferLooked p r q buf₀ at a j budget (Node k b s) → n ≤ 0
        → ChildNext p rules fits chart tables r q k a b i j mask budget at buf₁ full rows buf m
        → RowNext p rules fits chart tables r q a i j mask budget at buf₀ full rows buf m
    row-child (at_node c t g d M Z u v) h C =
        let none : n ≡ 0 = omega arith in
        record {
          kept = kept_then none N.kept C.kept;
          frame = C.frame;
          exact = λ w G known f R S E.
              let (B, D) = behind known S E (at_node c t g d M Z u v) in
              let x = B.first in
              next-as p r q (tail-nonterminal p r q c t g) (C.exact w G known c f x B.rest B.opened
              (subst (λ (v : ℕ). Last (Row (Packing p) w (j - i) mask (tail_in p r (q + 1)) b j (budget - v)) (code B.rest)) B.count
              ((N.exact w G known B.rest B.row B.stands D).none none))
              (stands_same buf₀ buf₁ at (code x) (kept_same none N.kept) (child-here buf₀ at S B.opened)));
        }
