-- What `put_node` knows at its loop, and that there is room for each piece. Assumes nothing.
use Prim.Native.Nat.{ℕ, ◌+◌, ◌-◌, ◌≤◌, ◌<◌, min}
use native.Mathlib.Omega.{arith}
use mathlib.Core.List.{List, [], ◌∷◌, ◌++◌, append_assoc}
use mathlib.Core.Path.{◌≡◌, refl, sym, ap, subst, ◌∙◌}
use lib.ListN.{length, get_or, length-append}
use Rattle.sizes.specs.Sizes.{max_rules, max_input, output_size}
use Rattle.cfg.specs.Grammar.{Symbol, nonterminal, terminal, Terminal}
use Rattle.cfg.specs.Tree.{Forest, nodes}
use Rattle.laws.proofs.Bools.{clash}
use Rattle.packed.specs.Packed.{place_count, symbol_in, places_in, cfg_in}
use Rattle.packed.proofs.Laws.{places-start}
use Rattle.theory_words.specs.Words.{opening, closing, leaf_text, following, forest_text}
use Rattle.print_number.proofs.Writing.{put-none}
use Rattle.words_text.specs.Names.{names_size, text_in}
use Rattle.words_write.specs.declared.Cursor.{Cursor}
use Rattle.words_write.specs.declared.Place.{Place}
use Rattle.words_write.specs.declared.Place.TheVariants.{Leaf, Node}
use Rattle.words_write.specs.Cursor.{CursorMoved, look_of, comma_before, ForestAt, rule_at, node_text, Writable, NodeWritten}
use Rattle.words_write.proofs.Forests.{leaf_first, node-first}
use Rattle.words_write.proofs.Pieces.{moved-append, moved_same}
use Rattle.words_write.proofs.Places.{remaining, remaining-comma, leaf-text, node-text, Progress, Along}
use Rattle.words_write.proofs.Places.{same_place, left_at, comma-step, leaf-step, node-step, all-written}

-- the text of a node, as it is written
node-parts : (names : List ℕ) (r : ℕ) (t : Forest)
    → node_text names r t ≡ (text_in names r ++ (opening ∷ [])) ++ (forest_text (text_in names) t ++ (closing ∷ []))
unfolding forest_text following
node-parts names r t = simp append_assoc

node-length : (names : List ℕ) (r : ℕ) (t : Forest)
    → length (node_text names r t) ≡ length (text_in names r) + length (forest_text (text_in names) t) + 2
node-length names r t = ap length (node-parts names r t) ∙ simp length-append (omega arith)

-- ---- at the loop

-- below the node that was opened there is a forest from the cursor on, with fewer than `left` nodes, and its text and `)` fit
pub record Started (names p w e : List ℕ) (left r : ℕ) (start : Cursor) (size : ℕ) : Type 0 where
  pub full : length names ≡ names_size
  pub short : length e ≤ output_size
  pub small : length w ≤ max_input
  pub below : Forest
  pub found : ForestAt (cfg_in 0 p) w e (places_in p r) start.node start.byte below
  pub few : nodes below < left
  pub room : start.at + length (forest_text (text_in names) below) < size

module _ {names p w e : List ℕ} {left r : ℕ} {here : Cursor} where
  module _ {size : ℕ} (W : Writable names p w e left here size) (number : r ≡ min (rule_at e here.node) max_rules) where
    -- the rule read is that of the node
    pub rule-read : (r ≡ rule_at e here.node) × (r < max_rules)
    rule-read = let low = W.found.low in (omega arith, omega arith)

    pub open-room : here.at + length (text_in names r) < size
    open-room =
        let fits = W.room in
        let parts = node-length names (rule_at e here.node) W.below in
        let e : length (text_in names r) ≡ length (text_in names (rule_at e here.node)) =
        ap (λ (n : ℕ). length (text_in names n)) rule-read.0 in
        omega arith

    module _ {start : Cursor} {out₀ out : List ℕ} (M : CursorMoved (text_in names r ++ (opening ∷ [])) 1 0 here start out₀ out)
        (same : length out₀ ≡ size) where
      pub started : Started names p w e left r start (length out)
      started =
          let fits = W.room in
          let parts = node-length names (rule_at e here.node) W.below in
          let long = M.put.long in
          let grown = M.put.grown in
          let n = M.nodes in
          let b = M.bytes in
          let piece = length-append (text_in names r) (opening ∷ []) in
          let e' : length (text_in names r) ≡ length (text_in names (rule_at e here.node)) =
          ap (λ (k : ℕ). length (text_in names k)) rule-read.0 in
          record {
            full = W.full;
            short = W.short;
            small = W.small;
            below = W.below;
            found = subst (λ (k : ℕ). ForestAt (cfg_in 0 p) w e (places_in p k) start.node start.byte W.below) (sym rule-read.0)
                (same_place {b = start.node} {j = start.byte} (omega arith) (omega arith) W.found.below);
            few = W.few;
            room = omega arith;
          }

-- no place is passed yet
pub along-start : {names p w e : List ℕ} {r : ℕ} {start : Cursor} {out : List ℕ}
    → Along names p w e r 0 (remaining names 0) start start out out
unfolding remaining
along-start {p = p} {r = r} {start} {out} = record {
  every = λ t f. record {
    rest = t;
    there = rw (places-start p r) f;
    text = [];
    put = put-none start.at start.at out refl;
    adds = refl;
    passed = refl;
    covered = refl;
    onward = omega arith;
  };
}

-- ---- the turns of the loop

module _ {names p w e : List ℕ} {left r q n : ℕ} {start here : Cursor} {out₀ out : List ℕ} (counted : n ≡ place_count p r) (more : q < n)
    (S : Started names p w e left r start (length out₀)) (A : Along names p w e r q (remaining names q) start here out₀ out) where
  in-rule : q < place_count p r
  in-rule = omega arith

  before : Progress names p w e r q (remaining names q) start here out₀ out S.below
  before = A.every S.below S.found

  pub comma-fits : here.at + length (comma_before q) ≤ length out
  comma-fits =
      let P = before in
      let all = ap length P.adds in
      let sum = length-append P.text (remaining names q P.rest) in
      let due = ap length (remaining-comma names q (left_at in-rule P).fit) in
      let parts = length-append (comma_before q) (forest_text (text_in names) P.rest) in
      let long = P.put.long in
      let grown = P.put.grown in
      let room = S.room in
      omega arith

  module _ {next : Cursor} {out' : List ℕ} (M : CursorMoved (comma_before q) 0 0 here next out out') where
    at_place : Progress names p w e r q (forest_text (text_in names)) start next out₀ out' S.below
    at_place = comma-step in-rule before M

    module _ (s : Place) (told : s ≡ look_of (symbol_in p r q)) where
      -- what the symbol is, by the answer of `look`
      leaf-symbol : {A : Type 0} → s ≡ Leaf → ((t : Terminal) → symbol_in p r q ≡ terminal t → A) → A
      leaf-symbol {A} is f = go (symbol_in p r q) refl told
        where
          go : (x : Symbol) → symbol_in p r q ≡ x → s ≡ look_of x → A
          go (terminal t) h k = f t h
          go (nonterminal k) h l = clash cc

      node-symbol : {A : Type 0} → s ≡ Node → ((k : ℕ) → symbol_in p r q ≡ nonterminal k → A) → A
      node-symbol {A} is f = go (symbol_in p r q) refl told
        where
          go : (x : Symbol) → symbol_in p r q ≡ x → s ≡ look_of x → A
          go (terminal t) h k = clash cc
          go (nonterminal k) h l = f k h

      pub leaf-fits : s ≡ Leaf → (next.byte < length w) × (length w ≤ max_input) × (next.at + 3 ≤ length out')
      unfolding leaf_text
      leaf-fits is = leaf-symbol is (λ t symbol.
          let P = at_place in
          let first = leaf_first (rw symbol at (left_at in-rule P)) in
          let early = first.early in
          let all = ap length P.adds in
          let sum = length-append P.text (forest_text (text_in names) P.rest) in
          let is_IsLeaf = ap (λ (f : Forest). length (forest_text (text_in names) f)) first.is
          ∙ ap length (leaf-text names q (get_or w next.byte 0) first.rest) in
          let long = P.put.long in
          let grown = P.put.grown in
          let room = S.room in
          (early, S.small, omega arith))

      pub node-fits : s ≡ Node → Writable names p w e (left - 1) next (length out')
      unfolding nodes
      node-fits is = node-symbol is (λ k symbol.
          let P = at_place in
          let first = node-first (rw symbol at (left_at in-rule P)) in
          let all = ap length P.adds in
          let sum = length-append P.text (forest_text (text_in names) P.rest) in
          let number = rule_at e next.node in
          let is-node = ap (λ (f : Forest). length (forest_text (text_in names) f)) first.is
          ∙ ap length (node-text names q number first.below first.rest) in
          let parts = length-append (node_text names number first.below) (remaining names (q + 1) first.rest) in
          let below = ap nodes first.is in
          let long = P.put.long in
          let grown = P.put.grown in
          let passed = P.passed in
          let onward = P.onward in
          let few = S.few in
          let room = S.room in
          record {
            full = S.full;
            short = S.short;
            small = S.small;
            below = first.below;
            found = first.here;
            few = omega arith;
            room = omega arith;
          })

      module _ {here' : Cursor} {out'' : List ℕ} where
        pub leaf-again : s ≡ Leaf → CursorMoved (leaf_text (get_or w next.byte 0)) 0 1 next here' out' out''
            → Along names p w e r (q + 1) (remaining names (q + 1)) start here' out₀ out''
        leaf-again is L = leaf-symbol is (λ t symbol. record {
          every = λ f there. leaf-step in-rule symbol (comma-step in-rule (A.every f there) M) L;
        })

        pub node-again : s ≡ Node → NodeWritten names p w e next here' out' out''
            → Along names p w e r (q + 1) (remaining names (q + 1)) start here' out₀ out''
        node-again is N = node-symbol is (λ k symbol. record {
          every = λ f there. node-step in-rule symbol (comma-step in-rule (A.every f there) M) N.written;
        })

-- ---- after the loop

module _ {names p w e : List ℕ} {r q n : ℕ} {start here : Cursor} {out₀ out : List ℕ} (counted : n ≡ place_count p r) (none : n ≤ q)
    (A : Along names p w e r q (remaining names q) start here out₀ out) where
  pub same_size : {left : ℕ} {first last : Cursor} {found final : List ℕ} → Started names p w e left r start (length out₀)
      → CursorMoved (text_in names r ++ (opening ∷ [])) 1 0 first start found out₀ → CursorMoved (closing ∷ []) 0 0 here last out final
      → length final ≡ length found
  same_size S O C =
      let M = all-written (omega arith) (A.every S.below S.found) in
      C.put.long ∙ M.put.long ∙ O.put.long

  pub node_done : {first last : Cursor} {found final : List ℕ} → r ≡ min (rule_at e first.node) max_rules → r < max_rules
      → CursorMoved (text_in names r ++ (opening ∷ [])) 1 0 first start found out₀ → CursorMoved (closing ∷ []) 0 0 here last out final
      → NodeWritten names p w e first last found final
  node_done {first} number low O C = record {
    written = λ t there.
        let same : r ≡ rule_at e first.node = omega arith in
        let n = O.nodes in
        let b = O.bytes in
        let f = subst (λ (k : ℕ). ForestAt (cfg_in 0 p) w e (places_in p k) start.node start.byte t) (sym same)
        (same_place {b = start.node} {j = start.byte} (omega arith) (omega arith) there.below) in
        let M = all-written (omega arith) (A.every t f) in
        moved_same
        (sym (node-parts names r t) ∙ ap (λ (k : ℕ). node_text names k t) same) (omega arith) (omega arith)
        (moved-append O (moved-append M C));
  }
