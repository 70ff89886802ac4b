-- What the buffer holds at a place and at a node, by the tests that the code makes, and what a row there says of it. Assumes nothing.
use Prim.Native.Nat.{ℕ, ◌+◌, ◌*◌, ◌-◌, ◌≤◌, ◌<◌}
use mathlib.Core.Bool.{Bool, true, false}
use mathlib.Core.List.{List, ◌∷◌, ◌++◌}
use mathlib.Core.Path.{◌≡◌, refl, sym, ap, subst, ◌∙◌}
use native.Mathlib.Omega.{arith}
use lib.ListN.{length, get_or}
use Rattle.sizes.specs.Sizes.{max_places, max_nodes}
use Rattle.cfg.specs.Grammar.{Cfg, Symbol, nonterminal}
use Rattle.cfg.specs.Tree.{Forest, nodes, code}
use Rattle.theory_listing.proofs.Unique.{length-code}
use Rattle.theory_enumeration.specs.Rows.{Row}
use Rattle.theory_choices.specs.Opened.{OpenedRow}
use Rattle.theory_choices.proofs.Stands.{row_opened}
use Rattle.theory_choices.proofs.NextRow.{rest-stands}
use Rattle.packed.specs.Packed.{place_count, is_nonterminal_in, value_in}
use Rattle.packed.proofs.Laws.{count-le}
use Rattle.tree_size.specs.Standing.{StandsAt, Sized}
use Rattle.tree_size.proofs.Stands.{stands-first, stands-second}
use Rattle.table_layout.specs.Exact.{Packing}
use Rattle.table_suffix.specs.Within.{tail_in}
use Rattle.tree_later.proofs.Codes.{tree-nonempty}
use Rattle.tree_read.specs.declared.look.Step.{Step}
use Rattle.tree_read.specs.declared.look.Step.TheVariants.{No, End, Byte, Final, Node}
use Rattle.tree_read.specs.Looked.{LeavesIn, LeavesFound, BufferLooked, at_end, at_byte, no_byte, at_last, at_node}
use Rattle.tree_read.specs.Looked.{no_room, no_end, no_node}

-- ---- the tests

module _ {p : List ℕ} {r q : ℕ} {buf : List ℕ} {at a j budget m : ℕ} (e : m ≡ place_count p r) where
  pub look-end : m ≤ q → BufferLooked p r q buf at a j budget End
  look-end h = at_end (omega arith)

  module _ {t : Bool} (h : q < m) (f : t ≡ is_nonterminal_in p r q) where
    pub look-byte : t ≡ false → a < j → BufferLooked p r q buf at a j budget Byte
    look-byte n l = at_byte (omega arith) (sym f ∙ n) l

    pub look-short : t ≡ false → j ≤ a → BufferLooked p r q buf at a j budget No
    look-short n l = no_byte (omega arith) (sym f ∙ n) l

    pub look-no-room : t ≡ true → budget ≡ 0 → BufferLooked p r q buf at a j budget No
    look-no-room y l = no_room (omega arith) (sym f ∙ y) l

    -- c is the number of bytes that the node covers
    module _ {c : ℕ} (y : t ≡ true) (d : c ≡ get_or buf (2 * at) 0) where
      pub look-beyond : j < a + c → BufferLooked p r q buf at a j budget No
      look-beyond l = no_end (omega arith) (sym f ∙ y) (ap (λ (x : ℕ). a + x) d) l

      pub look-last : {k : ℕ} {u : Bool} → k ≡ value_in p r q → a + c ≤ j → LeavesFound p r (q + 1) m u → u ≡ true
          → BufferLooked p r q buf at a j budget (Final k (a + c))
      look-last g l n v =
          at_last (omega arith) (subst (LeavesIn p r (q + 1)) e (n.0 v)) (sym f ∙ y) g (ap (λ (x : ℕ). a + x) d) l

      pub look-node : {k s : ℕ} {u : Bool} → k ≡ value_in p r q → a + c ≤ j → LeavesFound p r (q + 1) m u → u ≡ false → Sized p buf at s
          → s ≤ budget → BufferLooked p r q buf at a j budget (Node k (a + c) s)
      look-node g l n v Z o =
          at_node (omega arith) (sym f ∙ y) g (ap (λ (x : ℕ). a + x) d) (λ L. n.1 v (subst (LeavesIn p r (q + 1)) (sym e) L)) Z l o

    -- s is the number of its nodes
    pub look-large : {s : ℕ} → t ≡ true → Sized p buf at s → budget < s → BufferLooked p r q buf at a j budget No
    look-large y Z l = no_node (omega arith) (sym f ∙ y) Z l

module _ {p : List ℕ} {r q : ℕ} {buf : List ℕ} {at a j budget : ℕ} where
  -- the place and the position that come next are within their limits
  pub byte-room : BufferLooked p r q buf at a j budget Byte → (q < max_places) × (a < j)
  byte-room (at_byte c t m) = (omega (arith, count-le p r), m)

  pub node-room : {k b n : ℕ} → BufferLooked p r q buf at a j budget (Node k b n)
      → (q < max_places) × (a ≤ b) × (b ≤ j) × (n ≤ budget) × (at + n ≤ max_nodes)
  node-room (at_node c t g d N Z x y) = (omega (arith, count-le p r), omega arith, x, y, omega (arith, Z.small))

-- ---- a row in the buffer

module _ {G : Cfg} {w : List ℕ} {cover mask k : ℕ} {places : List Symbol} {a j budget : ℕ} {f : Forest} (buf : List ℕ) (at : ℕ)
    (S : StandsAt buf at (code f)) where
  -- the first number in the buffer is that of the row's code, and says where its first node ends
  pub first-number : {b : ℕ} {x y : Forest} → OpenedRow G w cover mask k places a j budget f b x y
      → get_or buf (2 * at) 0 ≡ get_or (code f) 0 0
  first-number o =
      let n = o.counted in
      let z : 2 * at ≡ 2 * at + 0 = omega arith in
      ap (λ (v : ℕ). get_or buf v 0) z ∙ S 0 (omega (arith, length-code f, tree-nonempty o.child.fit))

  pub opened-here : {b : ℕ} → j ≤ length w → a ≤ j → Row G w cover mask (nonterminal k ∷ places) a j budget f → b ≡ a + get_or buf (2 * at) 0
      → (x y : Forest) × OpenedRow G w cover mask k places a j budget f b x y
  opened-here {b} known l R e =
      let (x, y, o) = row_opened known l (a + get_or (code f) 0 0) R refl in
      row_opened known l b R (e ∙ ap (λ (v : ℕ). a + v) (first-number o))

  module _ {b : ℕ} {x y : Forest} (o : OpenedRow G w cover mask k places a j budget f b x y) where
    pub both-stand : StandsAt buf at (code x ++ code y)
    both-stand = subst (StandsAt buf at) o.coded S

    pub child-here : StandsAt buf at (code x)
    child-here = stands-first buf at (code x) (code y) both-stand

-- the number of nodes that was counted is that of the tree
pub size-here : {p w : List ℕ} {cover mask k : ℕ} {places : List Symbol} {a j budget at s b : ℕ} {buf : List ℕ} {f x y : Forest}
    → Sized p buf at s → StandsAt buf at (code f) → OpenedRow (Packing p) w cover mask k places a j budget f b x y → at + budget ≤ max_nodes
    → s ≡ nodes x
size-here {k = k} {at = at} {buf = buf} {x = x} Z S o room =
    Z.exact k x o.child.fit (child-here buf at S o) (omega (arith, o.child.small))

-- the first node of a row in the buffer, a node of k up to b with s nodes, and the row after it
pub record Passed (p w : List ℕ) (cover mask r q k a j budget b s : ℕ) (buf : List ℕ) (at : ℕ) (f : Forest) : Type 0 where
  pub first : Forest
  pub rest : Forest
  pub opened : OpenedRow (Packing p) w cover mask k (tail_in p r (q + 1)) a j budget f b first rest
  pub count : s ≡ nodes first
  pub size : length (code first) ≡ 2 * s
  pub row : Row (Packing p) w cover mask (tail_in p r (q + 1)) b j (budget - s) rest
  pub stands : StandsAt buf (at + s) (code rest)

-- such a node, from its size and from the row's first node
abbrev pub passed_here : {p w : List ℕ} {cover set r q k a j budget b s at : ℕ} {buf : List ℕ} {f x y : Forest} → j ≤ length w
    → Sized p buf at s → StandsAt buf at (code f) → OpenedRow (Packing p) w cover set k (tail_in p r (q + 1)) a j budget f b x y
    → at + budget ≤ max_nodes → Passed p w cover set r q k a j budget b s buf at f
passed_here {s = s} {at} {buf} {x = x} {y} known Z S o room =
    let z = size-here Z S o room in
    let size : length (code x) ≡ 2 * s = omega (arith, length-code x) in
    record {
      first = x;
      rest = y;
      opened = o;
      count = z;
      size = size;
      row = rest-stands known o z;
      stands = stands-second buf at (code x) (code y) s size (both-stand buf at S o);
    }
