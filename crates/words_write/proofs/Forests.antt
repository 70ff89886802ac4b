-- The forest at a cursor, taken apart: a leaf or a node, and the forest after it. Assumes nothing.
use Prim.Native.Nat.{ℕ, suc, ◌+◌, ◌*◌, ◌≤◌, ◌<◌}
use native.Mathlib.Omega.{arith}
use mathlib.Core.List.{List, [], ◌∷◌, ◌++◌, append_assoc, append-nil, head-eq_of_cons-eq, tail-eq_of_cons-eq}
use mathlib.Core.Path.{◌≡◌, refl, sym, ap, subst, ◌∙◌}
use lib.ListN.{length, get_or, drop, length-append, drop_of_length-le}
use lib.Seq.{drop-cons, drop-drop, drop-append_seam}
use Rattle.cfg.specs.Grammar.{Cfg, Symbol, nonterminal, terminal, Terminal}
use Rattle.cfg.specs.Tree.{Forest, end, leaf, node, yield, nodes, code, Fits, fits_end, fits_leaf, fits_node}
use Rattle.theory_listing.proofs.Unique.{length-code}
use Rattle.packed.specs.Packed.{cfg_in, places_in}
use Rattle.packed.proofs.Laws.{of-in}
use Rattle.check_walk.proofs.Nodes.{at-two}
use Rattle.words_write.specs.Cursor.{ForestAt, rule_at, NodeAt}

-- a list that goes on at i with x and then y: y is after x
module _ (x y z l : List ℕ) (i : ℕ) (e : (x ++ y) ++ z ≡ drop i l) where
  parted : x ++ (y ++ z) ≡ drop i l
  parted = sym (append_assoc x y z) ∙ e

  second_at : y ++ z ≡ drop (i + length x) l
  second_at = sym (drop-append_seam x (y ++ z)) ∙ ap (drop (length x)) parted ∙ drop-drop (length x) i l

  first-at : x ++ drop (i + length x) l ≡ drop i l
  first-at = ap (λ (v : List ℕ). x ++ v) (sym second_at) ∙ parted

-- what a row goes on with at another index that is the same
moved : (x l : List ℕ) (i j k m : ℕ) → i ≡ j → k ≡ m → x ++ drop i l ≡ drop k l → x ++ drop j l ≡ drop m l
moved x l i j k m p q e = ap (λ (n : ℕ). x ++ drop n l) (sym p) ∙ e ∙ ap (λ (n : ℕ). drop n l) q

-- ---- a leaf first

-- a leaf with the byte of the input, and the forest after it
pub record LeafFirst (G : Cfg) (w e : List ℕ) (places : List Symbol) (at from : ℕ) (t : Forest) : Type 0 where
  pub rest : Forest
  pub is : t ≡ leaf (get_or w from 0) rest
  pub early : from < length w
  pub after : ForestAt G w e places at (from + 1) rest

module _ {G : Cfg} {w e : List ℕ} {s : Terminal} {places : List Symbol} {at from : ℕ} where
  pub leaf_first : {t : Forest} → ForestAt G w e (terminal s ∷ places) at from t → LeafFirst G w e places at from t
  unfolding yield nodes code
  leaf_first f = go f.fit f.covers f.known f.coded f.inside
    where
      go : {t : Forest} → Fits G (terminal s ∷ places) t → yield t ++ drop (from + length (yield t)) w ≡ drop from w
          → from + length (yield t) ≤ length w → code t ++ drop (2 * (at + nodes t)) e ≡ drop (2 * at) e → 2 * (at + nodes t) ≤ length e
          → LeafFirst G w e places at from t
      go (fits_leaf {m = m} {rest = rest} _ g) c k d i =
          let early : from < length w = omega arith in
          let both : m ∷ (yield rest ++ drop (from + suc (length (yield rest))) w) ≡ get_or w from 0 ∷ drop (suc from) w =
          c ∙ drop-cons w from 0 early in
          record {
            rest = rest;
            is = ap (λ (b : ℕ). leaf b rest) (head-eq_of_cons-eq both);
            early = early;
            after = record {
              fit = g;
              covers = moved (yield rest) w (from + suc (length (yield rest))) (from + 1 + length (yield rest)) (suc from) (from + 1)
                  (omega arith) (omega arith) (tail-eq_of_cons-eq both);
              known = omega arith;
              coded = d;
              inside = i;
            };
          }

-- ---- a node first

-- a node, what is below it, and the forest after it
pub record NodeFirst (p w e : List ℕ) (places : List Symbol) (at from : ℕ) (t : Forest) : Type 0 where
  pub below : Forest
  pub rest : Forest
  pub is : t ≡ node (rule_at e at) below rest
  pub here : NodeAt p w e at from below
  pub after : ForestAt (cfg_in 0 p) w e places (at + suc (nodes below)) (from + length (yield below)) rest

module _ {p w e : List ℕ} {k : ℕ} {places : List Symbol} {at from : ℕ} where
  pub node-first : {t : Forest} → ForestAt (cfg_in 0 p) w e (nonterminal k ∷ places) at from t → NodeFirst p w e places at from t
  unfolding yield nodes code
  node-first f = go f.fit f.covers f.known f.coded f.inside
    where
      go : {t : Forest} → Fits (cfg_in 0 p) (nonterminal k ∷ places) t → yield t ++ drop (from + length (yield t)) w ≡ drop from w
          → from + length (yield t) ≤ length w → code t ++ drop (2 * (at + nodes t)) e ≡ drop (2 * at) e → 2 * (at + nodes t) ≤ length e
          → NodeFirst p w e places at from t
      go (fits_node {r = r} {below = below} {rest = rest} o g h) c kn d i =
          let of = of-in 0 p r k o in
          let numbers = length-code below in
          let later = length-code rest in
          let sum = length-append (yield below) (yield rest) in
          let tail = drop (2 * (at + suc (nodes below + nodes rest))) e in
          let two = at-two e (2 * at) (get_or e (2 * at) 0) (rule_at e at) (omega arith) refl refl in
          let left = drop (2 * at + 2) e in
          let both : length (yield below) ∷ r ∷ ((code below ++ code rest) ++ tail) ≡ get_or e (2 * at) 0 ∷ rule_at e at ∷ left = d ∙ two in
          let number : r ≡ rule_at e at = head-eq_of_cons-eq (tail-eq_of_cons-eq both) in
          let row = tail-eq_of_cons-eq (tail-eq_of_cons-eq both) in
          let tail-w = drop (from + length (yield below ++ yield rest)) w in
          record {
            below = below;
            rest = rest;
            is = ap (λ (n : ℕ). node n below rest) number;
            here = record {
              low = omega (arith, of.0);
              below = record {
                fit = subst (λ (n : ℕ). Fits (cfg_in 0 p) (places_in p n) below) number
                    (subst (λ (l : List Symbol). Fits (cfg_in 0 p) l below) of.3 g);
                covers = first-at (yield below) (yield rest) tail-w w from c;
                known = omega arith;
                coded =
                    moved (code below) e (2 * at + 2 + length (code below)) (2 * (at + 1 + nodes below)) (2 * at + 2) (2 * (at + 1))
                    (omega arith) (omega arith) (first-at (code below) (code rest) tail e (2 * at + 2) row);
                inside = omega arith;
              };
            };
            after = record {
              fit = h;
              covers =
                  moved (yield rest) w (from + length (yield below ++ yield rest)) (from + length (yield below) + length (yield rest))
                  (from + length (yield below)) (from + length (yield below)) (omega arith) refl
                  (second_at (yield below) (yield rest) tail-w w from c);
              known = omega arith;
              coded =
                  moved (code rest) e (2 * (at + suc (nodes below + nodes rest))) (2 * (at + suc (nodes below) + nodes rest))
                  (2 * at + 2 + length (code below)) (2 * (at + suc (nodes below))) (omega arith) (omega arith)
                  (second_at (code below) (code rest) tail e (2 * at + 2) row);
              inside = omega arith;
            };
          }

-- ---- no place

pub no_place : {G : Cfg} {w e : List ℕ} {at from : ℕ} {t : Forest} → ForestAt G w e [] at from t → t ≡ end
no_place {G} f = go f.fit
  where
    go : {t : Forest} → Fits G [] t → t ≡ end
    go fits_end = refl

-- ---- the root

-- the tree of a derivation, at the first node and the first byte
pub root-first : {G : Cfg} {places : List Symbol} {w e : List ℕ} {t : Forest} → Fits G places t → yield t ≡ w → code t ≡ e
    → ForestAt G w e places 0 0 t
root-first {w = w} {e} {t} f y c =
    let bytes = ap length y in
    let numbers = ap length c in
    let size = length-code t in
    record {
      fit = f;
      covers =
          ap (λ (l : List ℕ). yield t ++ l) (drop_of_length-le w {i = 0 + length (yield t)} (omega arith)) ∙ append-nil (yield t) ∙ y;
      known = omega arith;
      coded =
          ap (λ (l : List ℕ). code t ++ l) (drop_of_length-le e {i = 2 * (0 + nodes t)} (omega arith)) ∙ append-nil (code t) ∙ c;
      inside = omega arith;
    }
