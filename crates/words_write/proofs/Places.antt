-- The places of a node, one after the other: what is written of the forest below the node, and what is left of it. Assumes nothing.
use Prim.Native.Nat.{ℕ, zero, suc, ◌+◌, ◌-◌, ◌≤◌, ◌<◌}
use native.Mathlib.Numerals.{add-one}
use native.Mathlib.Omega.{arith}
use mathlib.Core.List.{List, [], ◌∷◌, ◌++◌, append_assoc, append-nil}
use mathlib.Core.Path.{◌≡◌, refl, sym, ap, subst, ◌∙◌}
use lib.ListN.{length, get_or, length-append}
use Rattle.cfg.specs.Grammar.{Cfg, Symbol, nonterminal, terminal, Terminal}
use Rattle.cfg.specs.Tree.{Forest, end, leaf, node, yield, nodes, Fits, fits_leaf, fits_node}
use Rattle.packed.specs.Packed.{place_count, symbol_in, places_from, places_in, cfg_in}
use Rattle.packed.proofs.Laws.{places-step, places-end}
use Rattle.theory_words.specs.Words.{leaf_text, following, forest_text}
use Rattle.print_number.specs.Put.{Put}
use Rattle.print_number.proofs.Writing.{put-append}
use Rattle.words_text.specs.Names.{text_in}
use Rattle.words_write.specs.declared.Cursor.{Cursor}
use Rattle.words_write.specs.Cursor.{CursorMoved, comma_before, ForestAt, rule_at, NodeAt, node_text}
use Rattle.words_write.proofs.Forests.{leaf_first, node-first, no_place}

-- ---- what is due

-- the text of the places from place q on: all but the first have a comma before them
unfoldable pub remaining : List ℕ → ℕ → Forest → List ℕ
remaining names zero t = forest_text (text_in names) t
remaining names (suc q) t = following t (forest_text (text_in names) t)

pub remaining-after : (names : List ℕ) (q : ℕ) (t : Forest) → remaining names (q + 1) t ≡ following t (forest_text (text_in names) t)
unfolding remaining
remaining-after names q t = ap (λ (n : ℕ). remaining names n t) (add-one q)

pub remaining-comma : {G : Cfg} {s : Symbol} {places : List Symbol} (names : List ℕ) (q : ℕ) {t : Forest} → Fits G (s ∷ places) t
    → remaining names q t ≡ comma_before q ++ forest_text (text_in names) t
unfolding remaining comma_before following
remaining-comma names zero f = refl
remaining-comma names (suc q) (fits_leaf _ f) = refl
remaining-comma names (suc q) (fits_node _ f g) = refl

remaining-end : (names : List ℕ) (q : ℕ) → remaining names q end ≡ []
unfolding remaining following forest_text
remaining-end names zero = refl
remaining-end names (suc q) = refl

pub leaf-text : (names : List ℕ) (q m : ℕ) (rest : Forest)
    → forest_text (text_in names) (leaf m rest) ≡ leaf_text m ++ remaining names (q + 1) rest
unfolding forest_text
leaf-text names q m rest = ap (λ (l : List ℕ). leaf_text m ++ l) (sym (remaining-after names q rest))

pub node-text : (names : List ℕ) (q r : ℕ) (below rest : Forest)
    → forest_text (text_in names) (node r below rest) ≡ node_text names r below ++ remaining names (q + 1) rest
unfolding forest_text following
node-text names q r below rest = rw (remaining-after names q rest) (simp append_assoc)

-- ---- between two cursors

-- of the forest t below a node of rule r, which begins at the cursor `start`, `rest` is left at `here`, for the places from q on; what is
-- left of its text is `due rest`
pub record Progress (names p w e : List ℕ) (r q : ℕ) (due : Forest → List ℕ) (start here : Cursor) (out₀ out : List ℕ) (t : Forest)
    : Type 0 where
  pub rest : Forest
  pub there : ForestAt (cfg_in 0 p) w e (places_from p r q (place_count p r - q)) here.node here.byte rest
  pub text : List ℕ
  pub put : Put text start.at here.at out₀ out
  pub adds : text ++ due rest ≡ forest_text (text_in names) t
  pub passed : here.node + nodes rest ≡ start.node + nodes t
  pub covered : here.byte + length (yield rest) ≡ start.byte + length (yield t)
  pub onward : start.node ≤ here.node

-- the same for each forest that is there
pub record Along (names p w e : List ℕ) (r q : ℕ) (due : Forest → List ℕ) (start here : Cursor) (out₀ out : List ℕ) : Type 0 where
  pub every : (t : Forest) → ForestAt (cfg_in 0 p) w e (places_in p r) start.node start.byte t
      → Progress names p w e r q due start here out₀ out t

-- a forest at cursors that are the same
pub same_place : {G : Cfg} {w e : List ℕ} {places : List Symbol} {a b i j : ℕ} {t : Forest} → a ≡ b → i ≡ j
    → ForestAt G w e places a i t → ForestAt G w e places b j t
same_place {G} {w} {e} {places} {a} {b} {i} {j} {t} p q f =
    subst (λ (n : ℕ). ForestAt G w e places n j t) p (subst (λ (n : ℕ). ForestAt G w e places a n t) q f)

-- the places after place q
after-places : {G : Cfg} {w e : List ℕ} {at from : ℕ} {u : Forest} (p : List ℕ) (r q : ℕ)
    → ForestAt G w e (places_from p r (suc q) (place_count p r - suc q)) at from u
    → ForestAt G w e (places_from p r (q + 1) (place_count p r - (q + 1))) at from u
after-places {G} {w} {e} {at} {from} {u} p r q f =
    subst (λ (n : ℕ). ForestAt G w e (places_from p r n (place_count p r - n)) at from u) (sym (add-one q)) f

module _ {names p w e : List ℕ} {r : ℕ} where
  module _ {q : ℕ} {start here : Cursor} {out₀ out : List ℕ} {t : Forest} where
    -- at a place, the forest that is left is not empty
    pub left_at : {due : Forest → List ℕ} → q < place_count p r → (P : Progress names p w e r q due start here out₀ out t)
        → ForestAt (cfg_in 0 p) w e (symbol_in p r q ∷ places_from p r (suc q) (place_count p r - suc q)) here.node here.byte P.rest
    left_at h P = rw (places-step p r q h) at P.there

    pub comma-step : {next : Cursor} {out' : List ℕ} → q < place_count p r
        → Progress names p w e r q (remaining names q) start here out₀ out t → CursorMoved (comma_before q) 0 0 here next out out'
        → Progress names p w e r q (forest_text (text_in names)) start next out₀ out' t
    comma-step {next} h P M =
        let n = M.nodes in
        let b = M.bytes in
        let i = P.passed in
        let j = P.covered in
        let k = P.onward in
        record {
          rest = P.rest;
          there = same_place {a = here.node} {b = next.node} {i = here.byte} {j = next.byte} (omega arith) (omega arith) P.there;
          text = P.text ++ comma_before q;
          put = put-append P.put M.put;
          adds =
              append_assoc P.text (comma_before q) (forest_text (text_in names) P.rest)
              ∙ ap (λ (l : List ℕ). P.text ++ l) (sym (remaining-comma names q (left_at h P).fit))
              ∙ P.adds;
          passed = omega arith;
          covered = omega arith;
          onward = omega arith;
        }

    pub leaf-step : {s : Terminal} {next : Cursor} {out' : List ℕ} → q < place_count p r → symbol_in p r q ≡ terminal s
        → Progress names p w e r q (forest_text (text_in names)) start here out₀ out t
        → CursorMoved (leaf_text (get_or w here.byte 0)) 0 1 here next out out'
        → Progress names p w e r (q + 1) (remaining names (q + 1)) start next out₀ out' t
    unfolding nodes yield
    leaf-step {s} {next} h is P M =
        let first = leaf_first (rw is at (left_at h P)) in
        let m = get_or w here.byte 0 in
        let n = M.nodes in
        let b = M.bytes in
        let i = P.passed in
        let j = P.covered in
        let k = P.onward in
        let u = ap nodes first.is in
        let v = ap (λ (f : Forest). length (yield f)) first.is in
        record {
          rest = first.rest;
          there = after-places p r q
              (same_place {a = here.node} {b = next.node} {i = here.byte + 1} {j = next.byte} (omega arith) (omega arith)
              first.after);
          text = P.text ++ leaf_text m;
          put = put-append P.put M.put;
          adds =
              append_assoc P.text (leaf_text m) (remaining names (q + 1) first.rest)
              ∙ ap (λ (l : List ℕ). P.text ++ l) (sym (leaf-text names q m first.rest))
              ∙ ap (λ (f : Forest). P.text ++ forest_text (text_in names) f) (sym first.is)
              ∙ P.adds;
          passed = omega arith;
          covered = omega arith;
          onward = omega arith;
        }

    pub node-step : {k : ℕ} {next : Cursor} {out' : List ℕ} → q < place_count p r → symbol_in p r q ≡ nonterminal k
        → (P : Progress names p w e r q (forest_text (text_in names)) start here out₀ out t)
        → ((below : Forest) → NodeAt p w e here.node here.byte below
        → CursorMoved (node_text names (rule_at e here.node) below) (suc (nodes below)) (length (yield below)) here next out out')
        → Progress names p w e r (q + 1) (remaining names (q + 1)) start next out₀ out' t
    unfolding nodes yield
    node-step {k} {next} h is P written =
        let first = node-first (rw is at (left_at h P)) in
        let M = written first.below first.here in
        let number = rule_at e here.node in
        let n = M.nodes in
        let b = M.bytes in
        let i = P.passed in
        let j = P.covered in
        let l = P.onward in
        let u = ap nodes first.is in
        let v = ap (λ (f : Forest). length (yield f)) first.is in
        let sum = length-append (yield first.below) (yield first.rest) in
        record {
          rest = first.rest;
          there = after-places p r q (same_place {b = next.node} {j = next.byte} (sym n) (sym b) first.after);
          text = P.text ++ node_text names number first.below;
          put = put-append P.put M.put;
          adds =
              append_assoc P.text (node_text names number first.below) (remaining names (q + 1) first.rest)
              ∙ ap (λ (x : List ℕ). P.text ++ x) (sym (node-text names q number first.below first.rest))
              ∙ ap (λ (f : Forest). P.text ++ forest_text (text_in names) f) (sym first.is)
              ∙ P.adds;
          passed = omega arith;
          covered = omega arith;
          onward = omega arith;
        }

    -- past the last place
    pub all-written : place_count p r ≤ q → Progress names p w e r q (remaining names q) start here out₀ out t
        → CursorMoved (forest_text (text_in names) t) (nodes t) (length (yield t)) start here out₀ out
    unfolding nodes yield
    all-written h P =
        let none = no_place (rw (places-end p r q h) at P.there) in
        let u = ap nodes none in
        let v = ap (λ (f : Forest). length (yield f)) none in
        let i = P.passed in
        let j = P.covered in
        record {
          put = subst (λ (x : List ℕ). Put x start.at here.at out₀ out)
              (sym (append-nil P.text) ∙ ap (λ (l : List ℕ). P.text ++ l) (sym (ap (remaining names q) none ∙ remaining-end names q))
              ∙ P.adds)
              P.put;
          nodes = omega arith;
          bytes = omega arith;
        }
