-- The walk over the nodes of a tree in a buffer: the rest of the tree is a row of trees, one for each child to come. Assumes nothing.
use Prim.Native.Nat.{ℕ, suc, ◌+◌, ◌*◌, ◌-◌, ◌≤◌, ◌<◌}
use mathlib.Core.List.{List, [], ◌∷◌, ◌++◌}
use mathlib.Core.Path.{◌≡◌, refl, sym, ap, subst, ◌∙◌}
use native.Mathlib.Omega.{arith}
use lib.ListN.{length, get_or}
use Rattle.sizes.specs.Sizes.{max_rules, max_nodes}
use Rattle.cfg.specs.Grammar.{Symbol, nonterminal, Of}
use Rattle.cfg.specs.Tree.{Forest, node, yield, nodes, code, Fits, fits_end, fits_leaf, fits_node}
use Rattle.packed.specs.Packed.{places_in, cfg_in}
use Rattle.packed.proofs.Laws.{of-in}
use Rattle.tree_size.specs.Standing.{child_of, children_of, children_in, StandsAt, Sized}
use Rattle.tree_size.proofs.Stands.{stands-rule, stands-behind}
use Rattle.tree_size.proofs.Forests.{append, append-fits, append-nodes, append-code, children-append}

-- a forest of `left` nodes is stored at `at`, and fits places of which `todo` are nonterminals
pub record Row (p buf : List ℕ) (at todo left : ℕ) : Type 0 where
  pub places : List Symbol
  pub forest : Forest
  pub fit : Fits (cfg_in 0 p) places forest
  pub count : children_of places ≡ todo
  pub stands : StandsAt buf at (code forest)
  pub size : nodes forest ≡ left

-- the rule r of the node at `at` is one of the grammar's, and after the node comes a row that begins with its children
pub record Behind (p buf : List ℕ) (at r todo left : ℕ) : Type 0 where
  pub low : r < max_rules
  pub rest : ℕ
  pub less : left ≡ suc rest
  pub row : Row p buf (at + 1) (todo - 1 + children_in p r) rest

-- without nonterminals there are no nodes
no-nodes : (p : List ℕ) {places : List Symbol} {f : Forest} → Fits (cfg_in 0 p) places f → children_of places ≡ 0 → nodes f ≡ 0
unfolding children_of child_of nodes
no-nodes p fits_end e = refl
no-nodes p (fits_leaf t f) e = no-nodes p f (omega arith)
no-nodes p (fits_node o b f) e = absurd (omega arith)

module _ (p buf : List ℕ) (at r todo : ℕ) (here : r ≡ get_or buf (2 * at + 1) 0) where
  -- at a node: its children come before its siblings
  behind-node : {k s : ℕ} {places : List Symbol} {below rest : Forest} (o : Of (cfg_in 0 p) s k)
      → Fits (cfg_in 0 p) o.the.places below → Fits (cfg_in 0 p) places rest → 1 + children_of places ≡ todo
      → StandsAt buf at (code (node s below rest)) → Behind p buf at r todo (nodes (node s below rest))
  unfolding code nodes
  behind-node {k} {s} {places} {below} {rest} o b f e t =
      let u = of-in 0 p s k o in
      let numbers = code below ++ code rest in
      let same : r ≡ s = here ∙ stands-rule buf at (length (yield below)) s numbers t in
      let m = ap (children_in p) same in
      let c = children-append (places_in p s) places in
      record {
        low = omega (arith, u.0);
        rest = nodes below + nodes rest;
        less = refl;
        row = record {
          places = places_in p s ++ places;
          forest = append below rest;
          fit = append-fits (subst (λ (l : List Symbol). Fits (cfg_in 0 p) l below) u.3 b) f;
          count = omega arith;
          stands = subst (StandsAt buf (at + 1)) (sym (append-code below rest)) (stands-behind buf at (length (yield below)) s numbers t);
          size = append-nodes below rest;
        };
      }

  -- the leaves before the first node have no numbers
  behind : {places : List Symbol} {f : Forest} → 0 < todo → children_of places ≡ todo → Fits (cfg_in 0 p) places f → StandsAt buf at (code f)
      → Behind p buf at r todo (nodes f)
  unfolding children_of child_of code nodes
  behind h e fits_end t = absurd (omega arith)
  behind h e (fits_leaf m f) t = behind h (omega arith) f t
  behind h e (fits_node o b f) t = behind-node o b f e t

-- all but the first n nodes of any tree at `at` are left, as a row for `todo` nonterminals
pub record Walked (p buf : List ℕ) (at n todo : ℕ) : Type 0 where
  pub left : (k : ℕ) (x : Forest) → Fits (cfg_in 0 p) (nonterminal k ∷ []) x → StandsAt buf at (code x)
      → (m : ℕ) × (nodes x ≡ n + m) × Row p buf (at + n) todo m

module _ {p buf : List ℕ} {at : ℕ} where
  pub walked_start : Walked p buf at 0 1
  unfolding children_of child_of
  walked_start = record {
    left = λ k x f t.
        let e : at ≡ at + 0 = omega arith in (
          nodes x,
          omega arith,
          record {
            places = nonterminal k ∷ [];
            forest = x;
            fit = f;
            count = omega arith;
            stands = subst (λ (a : ℕ). StandsAt buf a (code x)) e t;
            size = refl;
          },
        );
  }

  module _ {n todo : ℕ} (more : 0 < todo) (W : Walked p buf at n todo) where
    -- the next node of a tree at `at`
    next : {r : ℕ} → r ≡ get_or buf (2 * (at + n) + 1) 0 → (k : ℕ) (x : Forest) → Fits (cfg_in 0 p) (nonterminal k ∷ []) x
        → StandsAt buf at (code x) → (m : ℕ) × (nodes x ≡ n + m) × Behind p buf (at + n) r todo m
    next {r} e k x f t =
        let (m, s, row) = W.left k x f t in
        let b = behind p buf (at + n) r todo e more row.count row.fit row.stands in
        (m, s, subst (Behind p buf (at + n) r todo) row.size b)

    pub walked_step : {r c : ℕ} → r ≡ get_or buf (2 * (at + n) + 1) 0 → c ≡ children_in p r → Walked p buf at (n + 1) (todo - 1 + c)
    walked_step {r} {c} e g = record {
      left = λ k x f t.
          let (m, s, b) = next e k x f t in
          let d : at + n + 1 ≡ at + (n + 1) = omega arith in
          let l = b.less in (
            b.rest,
            omega arith,
            subst (λ (a : ℕ). Row p buf a (todo - 1 + c) b.rest) d
                (subst (λ (y : ℕ). Row p buf (at + n + 1) (todo - 1 + y) b.rest) (sym g) b.row),
          );
    }

    -- no tree of the grammar is stored at `at`
    pub sized-no-rule : {r : ℕ} → at + n ≤ max_nodes → r ≡ get_or buf (2 * (at + n) + 1) 0 → max_rules ≤ r → Sized p buf at n
    sized-no-rule h e l = record {
      small = h;
      exact = λ k x f t i.
          let (m, s, b) = next e k x f t in
          let j = b.low in
          absurd (omega arith);
    }

  pub sized-done : {n todo : ℕ} → at + n ≤ max_nodes → todo ≤ 0 → Walked p buf at n todo → Sized p buf at n
  sized-done {n} {todo} h l W = record {
    small = h;
    exact = λ k x f t i.
        let (m, s, row) = W.left k x f t in
        let e : todo ≡ 0 = omega arith in
        let z = no-nodes p row.fit (row.count ∙ e) in
        let j = row.size in
        omega arith;
  }
