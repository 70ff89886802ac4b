-- The steps to the last node of a row in a buffer, with premises as the code gives them. Assumes nothing.
use Prim.Native.Nat.{ℕ, ◌+◌, ◌*◌, ◌-◌, ◌≤◌, ◌<◌}
use mathlib.Core.List.{List, ◌++◌}
use mathlib.Core.Path.{◌≡◌, refl, sym, subst}
use native.Mathlib.Omega.{arith}
use lib.ListN.{length, get_or, length-append}
use Rattle.sizes.specs.Sizes.{max_nodes}
use Rattle.cfg.specs.Grammar.{Symbol}
use Rattle.cfg.specs.Tree.{Forest, code}
use Rattle.theory_enumeration.specs.Rows.{Row}
use Rattle.theory_enumeration.specs.Order.{Last}
use Rattle.theory_choices.specs.Opened.{OpenedRow}
use Rattle.theory_choices.proofs.Stands.{leaf-opened}
use Rattle.theory_choices.proofs.NextRow.{leaf-moves, rest-moves}
use Rattle.tree_size.specs.Standing.{StandsAt}
use Rattle.table_layout.specs.Exact.{Packing}
use Rattle.table_suffix.specs.Within.{tail_in}
use Rattle.tree_first.proofs.Codes.{stands-join}
use Rattle.tree_first.proofs.RowSteps.{tail-terminal, tail-nonterminal}
use Rattle.tree_read.specs.declared.look.Step.TheVariants.{No, End, Byte, Final, Node}
use Rattle.tree_read.specs.declared.reach.Found.{Found}
use Rattle.std.specs.Prelude.{Option, Some, None}
use Rattle.tree_read.specs.Looked.{BufferLooked, at_end, at_byte, at_last, at_node}
use Rattle.tree_read.specs.Reached.{Ends, ends_none, ends_leaf, ends_node, ends_last, LastNode, LastReached, nowhere, there}
use Rattle.tree_later.specs.Beyond.{AfterAt}
use Rattle.tree_read.proofs.Leaves.{leaves-behind, leaves-move, leaves-end}
use Rattle.tree_read.proofs.Reading.{node-room, opened-here, child-here, Passed, passed_here}
use Rattle.tree_read.proofs.Places.{row_as, after-as, none-stands}

-- what is known of the last node once it is found: it is inside the row
module _ {p : List ℕ} {r q : ℕ} {buf : List ℕ} {at a j budget : ℕ} where
  pub reach-room : {m : Found} → LastReached p r q buf at a j budget (Some m)
      → (a ≤ m.a) × (m.a ≤ m.b) × (m.b ≤ j) × (at ≤ m.at) × (m.at + m.budget ≡ at + budget)
  reach-room (there x y z u v H) = (x, y, z, u, v)

  pub reach-found : {m : Found} {w : List ℕ} {cover mask : ℕ} {f : Forest}
      → LastReached p r q buf at a j budget (Some m) → j ≤ length w
      → Row (Packing p) w cover mask (tail_in p r q) a j budget f → StandsAt buf at (code f)
      → LastNode p w cover mask r q a j budget f buf at m.k m.a m.b m.at m.budget
  reach-found {w = w} {cover} {mask} {f} (there x y z u v H) known R S = H w cover mask f known R S

module _ {p : List ℕ} {r q at a j budget : ℕ} {buf : List ℕ} (l : a ≤ j) (room : at + budget ≤ max_nodes) where
  -- ---- nothing, and the end

  pub reach-none : BufferLooked p r q buf at a j budget No → LastReached p r q buf at a j budget None
  reach-none L = nowhere (λ w cover mask f known R S. absurd (none-stands l room L known R S))

  pub reach-end : BufferLooked p r q buf at a j budget End → LastReached p r q buf at a j budget None
  reach-end (at_end m) = nowhere (λ w cover mask f known R S. ends_none m)

  -- ---- a byte

  pub reach-byte : {t : Option Found} → BufferLooked p r q buf at a j budget Byte → LastReached p r (q + 1) buf at (a + 1) j budget t
      → LastReached p r q buf at a j budget t
  reach-byte (at_byte c n m) (nowhere H) = nowhere (λ w cover mask f known R S.
      let (g, o) = leaf-opened known l (a + 1) (row_as p r q (tail-terminal p r q c n) R) (omega arith) in
      ends_leaf g n o (H w cover mask g known o.row (subst (StandsAt buf at) (sym o.coded) S)))
  reach-byte (at_byte c n m) (there {m = s} x y z u v H) = there {m = s} (omega arith) y z u v (λ w cover mask f known R S.
      let (g, o) = leaf-opened known l (a + 1) (row_as p r q (tail-terminal p r q c n) R) (omega arith) in
      let F = H w cover mask g known o.row (subst (StandsAt buf at) (sym o.coded) S) in
      record {
        tree = F.tree;
        child = F.child;
        here = F.here;
        last = λ D. ends_leaf g n o (F.last D);
        moves = λ buf₁ d K A.
            let B = F.moves buf₁ d K A in
            after-as p r q (tail-terminal p r q c n)
            (record { numbers = B.numbers; after = leaf-moves known o B.after; size = B.size; here = B.here });
      })

  -- ---- the last node

  pub reach-last : {k b : ℕ} → BufferLooked p r q buf at a j budget (Final k b)
      → LastReached p r q buf at a j budget (Some (record { k = k; a = a; b = b; at = at; budget = budget }))
  reach-last {k} {b} (at_last c m t g d u) = there {m = record { k = k; a = a; b = b; at = at; budget = budget }}
      (omega arith) (omega arith) u (omega arith) refl (λ w cover mask f known R S.
      let D = tail-nonterminal p r q c t g in
      let (x, y, o) = opened-here buf at S known l (row_as p r q D R) d in
      let z = leaves-behind p r (q + 1) m in
      record {
        tree = x;
        child = o.child;
        here = child-here buf at S o;
        last = λ A. ends_last t m
            (subst (λ (s : List Symbol). Last (Row (Packing p) w cover mask s a j budget) (code f)) (sym D) (leaves-end known z o A));
        moves = λ buf₁ n K A.
            after-as p r q D (record {
              numbers = A.numbers;
              after = leaves-move known z o A.numbers A.after;
              size = omega (arith, A.size);
              here = A.here;
            });
      })

  -- ---- a node with other nodes after it

  module _ {k b s : ℕ} where
    passed : {w : List ℕ} {cover mask : ℕ} {f : Forest} → BufferLooked p r q buf at a j budget (Node k b s) → j ≤ length w
        → Row (Packing p) w cover mask (tail_in p r q) a j budget f → StandsAt buf at (code f)
        → Passed p w cover mask r q k a j budget b s buf at f
    passed (at_node c t g d N Z u v) known R S =
        let (x, y, o) = opened-here buf at S known l (row_as p r q (tail-nonterminal p r q c t g) R) d in
        passed_here known Z S o room

    passed-ends : {w : List ℕ} {cover mask : ℕ} {f : Forest} → BufferLooked p r q buf at a j budget (Node k b s)
        → (P : Passed p w cover mask r q k a j budget b s buf at f)
        → Ends p w cover mask r j (q + 1) b (budget - s) P.rest → Ends p w cover mask r j q a budget f
    passed-ends {w} {cover} {mask} {f} (at_node c t g d N Z u v) P E =
        ends_node b P.first P.rest t N
        (subst (λ (z : ℕ). OpenedRow (Packing p) w cover mask z (tail_in p r (q + 1)) a j budget f b P.first P.rest) g P.opened)
        (subst (λ (z : ℕ). Ends p w cover mask r j (q + 1) b (budget - z) P.rest) P.count E)

    passed-moves : {w : List ℕ} {cover mask to : ℕ} (n : ℕ) {f : Forest} {buf₁ : List ℕ} → BufferLooked p r q buf at a j budget (Node k b s)
        → j ≤ length w → StandsAt buf at (code f) → (P : Passed p w cover mask r q k a j budget b s buf at f) → at + s ≤ to
        → ((y : ℕ) → y < 2 * to → get_or buf₁ y 0 ≡ get_or buf y 0)
        → AfterAt (Row (Packing p) w cover mask (tail_in p r (q + 1)) b j (budget - s)) (code P.rest) buf₁ (at + s) (to - (at + s) + n)
        → AfterAt (Row (Packing p) w cover mask (tail_in p r q) a j budget) (code f) buf₁ at (to - at + n)
    passed-moves n {buf₁ = buf₁} (at_node c t g d N Z u v) known S P h K A =
        let x = P.first in
        after-as p r q (tail-nonterminal p r q c t g) (record {
          numbers = code x ++ A.numbers;
          after = rest-moves known P.opened P.count {e = A.numbers} A.after;
          size = omega (arith, length-append (code x) A.numbers, P.size, A.size);
          here = stands-join buf buf₁ at s (code x) A.numbers P.size (child-here buf at S P.opened) A.here
              (λ y m. K y (omega arith));
        })

    pub reach-node : {t : Option Found} → BufferLooked p r q buf at a j budget (Node k b s)
        → LastReached p r (q + 1) buf (at + s) b j (budget - s) t → LastReached p r q buf at a j budget t
    reach-node L (nowhere H) = nowhere (λ w cover mask f known R S.
        let P = passed L known R S in
        passed-ends L P (H w cover mask P.rest known P.row P.stands))
    reach-node L (there {m = t} x y z u v H) =
        let h = node-room L in
        there {m = t} (omega arith) y z (omega arith) (omega arith) (λ w cover mask f known R S.
        let P = passed L known R S in
        let F = H w cover mask P.rest known P.row P.stands in
        record {
          tree = F.tree;
          child = F.child;
          here = F.here;
          last = λ D. passed-ends L P (F.last D);
          moves = λ buf₁ n K A. passed-moves n L known S P u K (F.moves buf₁ n K A);
        })
