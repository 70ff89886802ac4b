-- A given row is taken apart after its first leaf or its first node, and a given node into itself and the row below it. The numbers of the
-- code say where the first node ends, and which rule it has. Assumes nothing.
use Prim.Native.Nat.{ℕ, suc, ◌+◌, ◌-◌, ◌≤◌}
use mathlib.Core.List.{List, [], ◌∷◌, ◌++◌}
use mathlib.Core.Path.{◌≡◌, sym, ap, subst, ◌∙◌}
use native.Mathlib.Omega.{arith}
use lib.ListN.{length, get_or, length-append}
use Rattle.cfg.specs.Grammar.{Cfg, Symbol, nonterminal, terminal, Terminal, Of}
use Rattle.cfg.specs.Tree.{Forest, yield, nodes, code, Fits, fits_end, fits_node}
use Rattle.theory_listing.proofs.Unique.{length-code}
use Rattle.theory_enumeration.specs.Rows.{Row, Tree, first_cover, first_rule}
use Rattle.theory_enumeration.proofs.Rows.{row-length, end_row, leaf-row}
use Rattle.theory_enumeration.proofs.Cuts.{Cut, row_cut}
use Rattle.theory_enumeration.proofs.Nodes.{node-opened, rule-prefixed}
use Rattle.theory_choices.specs.Opened.{OpenedLeaf, OpenedRow, OpenedNode}

-- a forest with the code of another has as many nodes
same_nodes : (f g : Forest) → code g ≡ code f → nodes g ≡ nodes f
same_nodes f g e = omega (arith, ap length e, length-code f, length-code g)

-- ---- no places, and a terminal

module _ {G : Cfg} {w : List ℕ} {cover mask a j budget : ℕ} {f : Forest} (known : j ≤ length w) (rising : a ≤ j) where
  -- a row of no places
  pub end-stands : Row G w cover mask [] a j budget f → (a ≡ j) × (code f ≡ [])
  unfolding code
  end-stands r = let x = end_row G w cover mask a j budget f rising known r in (x.0, ap code x.1)

  -- a row of a terminal and further places; c is the next position
  pub leaf-opened : {t : Terminal} {places : List Symbol} (c : ℕ) → Row G w cover mask (terminal t ∷ places) a j budget f → c ≡ suc a
      → (g : Forest) × OpenedLeaf G w cover mask t places a j budget f c g
  leaf-opened {t} {places} c r e =
      let x = leaf-row G w cover mask a j budget places rising known t f r in
      let s : a + 1 ≡ c = omega arith in (
        x.rest,
        record {
          next = e;
          more = x.more;
          fit = x.fit;
          row = subst (λ (y : ℕ). Row G w cover mask places y j budget x.rest) s x.row;
          coded = sym x.coded;
          counted = same_nodes f x.rest (sym x.coded);
        },
      )

-- ---- a nonterminal

-- a tree's code begins with its cover and its rule
tree-begins : {G : Cfg} {k : ℕ} {x : Forest} → Fits G (nonterminal k ∷ []) x
    → (r : ℕ) × (l : List ℕ) × Of G r k × (code x ≡ length (yield x) ∷ r ∷ l)
unfolding yield code
tree-begins (fits_node {r = r} {below = below} o f fits_end) =
    let e : length (yield below) ≡ length (yield below ++ []) = omega (arith, length-append (yield below) []) in
    (r, code below ++ [], o, ap (λ (n : ℕ). n ∷ r ∷ (code below ++ [])) e)

module _ {G : Cfg} {w : List ℕ} {cover mask k : ℕ} {places : List Symbol} {a j budget : ℕ} {f : Forest} (known : j ≤ length w) where
  -- a row that is cut after its first child
  cut_opened : {c : ℕ} (x : Cut G w cover mask k places a j budget c f)
      → OpenedRow G w cover mask k places a j budget f (a + c) x.first x.rest
  cut_opened {c} x =
      let l = x.inside in
      let (r, later, of, e) = tree-begins x.child.fit in
      let n : length (yield x.first) ≡ a + c - a = row-length G w (omega arith) x.child in
      record {
        rising = omega arith;
        inside = l;
        child = x.child;
        others = x.others;
        coded = x.coded;
        counted = counted x.first x.rest x.coded;
        rule = r;
        later = later;
        of = of;
        begins = e ∙ ap (λ (y : ℕ). y ∷ r ∷ later) n;
      }
    where
      counted : (u v : Forest) → code f ≡ code u ++ code v → nodes u + nodes v ≡ nodes f
      counted u v q =
          omega (arith, ap length q, length-append (code u) (code v), length-code f, length-code u, length-code v)

  -- the first number of the code says how many bytes the first child covers
  opened-first : {b : ℕ} {x y : Forest} → OpenedRow G w cover mask k places a j budget f b x y → get_or (code f) 0 0 ≡ b - a
  opened-first {b} {x} {y} o = ap (λ (l : List ℕ). get_or l 0 0) (o.coded ∙ ap (λ (l : List ℕ). l ++ code y) o.begins)

  -- a row of a nonterminal and further places; b is the end of the child by the first number
  pub row_opened : a ≤ j → (b : ℕ) → Row G w cover mask (nonterminal k ∷ places) a j budget f → b ≡ a + get_or (code f) 0 0
      → (x y : Forest) × OpenedRow G w cover mask k places a j budget f b x y
  row_opened rising b r e =
      let x = row_cut G w cover mask k places a j budget known rising f r in
      let o = cut_opened x in
      let q : a + first_cover f ≡ b = omega (arith, opened-first o) in
      (x.first, x.rest, subst (λ (y : ℕ). OpenedRow G w cover mask k places a j budget f y x.first x.rest) q o)

-- ---- a node

-- the second number
second : {c r : ℕ} {d l : List ℕ} → d ≡ c ∷ r ∷ l → get_or d 1 0 ≡ r
second e = ap (λ (x : List ℕ). get_or x 1 0) e

-- a node has one node more than the row below it
below-nodes : {c r : ℕ} (t f : Forest) → code t ≡ c ∷ r ∷ code f → nodes t ≡ suc (nodes f)
below-nodes t f e = omega (arith, ap length e, length-code t, length-code f)

module _ {G : Cfg} {w : List ℕ} {mask k i j budget : ℕ} {t : Forest} (known : j ≤ length w) (rising : i ≤ j) where
  -- the second number of a node is its rule
  pub node-rule : (r : ℕ) → Tree G w (j - i) mask k i j budget t → r ≡ get_or (code t) 1 0 → Of G r k
  node-rule r s e =
      let x = node-opened G w (j - i) mask k i j budget (omega arith) known t s in
      subst (λ (z : ℕ). Of G z k) (sym (e ∙ second x.coded)) x.of

  -- a node of that rule
  pub node-below : {r : ℕ} (o : Of G r k) → Tree G w (j - i) mask k i j budget t → r ≡ get_or (code t) 1 0
      → (f : Forest) × OpenedNode G w (j - i) mask k i j budget o t f
  node-below {r} o s e =
      let x = node-opened G w (j - i) mask k i j budget (omega arith) known t s in
      let q : first_rule t ≡ r = sym (e ∙ second x.coded) in
      let (f, row, c) = (rule-prefixed G w (j - i) mask k i j budget (omega arith) known o x.fresh x.room).down t (s, q) in
      (f, record { fresh = x.fresh; room = x.room; row = row; coded = c; counted = below-nodes t f c })
