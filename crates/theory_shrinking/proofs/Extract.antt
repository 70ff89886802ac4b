-- A node is taken out of a row: it covers a part of what the row covers, and all that it has, the row has too. Assumes nothing.
use Prim.Native.Nat.{ℕ, suc, ◌+◌, ◌≤◌}
use native.Mathlib.Omega.{arith}
use mathlib.Core.Path.{◌≡◌, refl, sym, ap, ◌∙◌}
use mathlib.Core.List.{List, [], ◌∷◌, ◌++◌, append-nil, append_assoc}
use lib.ListN.{length, length-append}
use Rattle.cfg.specs.Grammar.{Cfg, Symbol, Of}
use Rattle.cfg.specs.Tree.{Forest, end, node, yield, nodes, Fits, fits_end, fits_leaf, fits_node}
use Rattle.cfg.specs.Derivation.{Has, has_here, has_below, has_beside, has_after}
use Rattle.cfg.specs.Derivation.{Superfluous, super_here, super_below, super_beside, super_after}
use Rattle.cfg.proofs.Of.{of-same-left}
use Rattle.theory_shrinking.proofs.Decide.{of-same}

-- a node of k over n bytes in the row t; `from` and `super` compare the row with this node alone
pub record Found (G : Cfg) (k n : ℕ) (t : Forest) : Type 0 where
  pub number : ℕ
  pub of : Of G number k
  pub below : Forest
  pub fitted : Fits G of.the.places below
  pub cover : length (yield below) ≡ n
  pub before : List ℕ
  pub after : List ℕ
  pub split : yield t ≡ before ++ (yield below ++ after)
  pub fewer : suc (nodes below) ≤ nodes t
  pub from : (j m : ℕ) → Has G j m (node number below end) → Has G j m t
  pub super : Superfluous G (node number below end) → Superfluous G t

-- the first node of a row
pub found_here : (G : Cfg) {k n j r : ℕ} {below rest : Forest} (o : Of G r j) → Fits G o.the.places below → Of G r k
    → length (yield below) ≡ n → Found G k n (node r below rest)
unfolding yield nodes
found_here G {r} {below} {rest} o f p e = record {
  number = r;
  of = of-same G (of-same-left o p) o;
  below = below;
  fitted = f;
  cover = e;
  before = [];
  after = yield rest;
  split = refl;
  fewer = omega arith;
  from = from;
  super = super;
}
  where
    from : (i m : ℕ) → Has G i m (node r below end) → Has G i m (node r below rest)
    from i m (has_here q c) = has_here q c
    from i m (has_below h) = has_below h
    from i m (has_beside h) = elim h [ ]

    super : Superfluous G (node r below end) → Superfluous G (node r below rest)
    super (super_here q h) = super_here q h
    super (super_below h) = super_below h
    super (super_beside h) = elim h [ ]

-- what is found in a part u of the row t, with x before the part and y after it
pub found_in : (G : Cfg) {k n : ℕ} {u t : Forest} (x y : List ℕ) → yield t ≡ x ++ (yield u ++ y) → nodes u ≤ nodes t
    → ((j m : ℕ) → Has G j m u → Has G j m t) → (Superfluous G u → Superfluous G t) → Found G k n u → Found G k n t
found_in G x y e l h s F = record {
  number = F.number;
  of = F.of;
  below = F.below;
  fitted = F.fitted;
  cover = F.cover;
  before = x ++ F.before;
  after = F.after ++ y;
  split = e ∙ ap (λ (z : List ℕ). x ++ (z ++ y)) F.split ∙ simp append_assoc;
  fewer = omega arith;
  from = λ j m i. h j m (F.from j m i);
  super = λ i. s (F.super i);
}

pub extract : (G : Cfg) {k n : ℕ} {places : List Symbol} {t : Forest} → Fits G places t → Has G k n t → Found G k n t
unfolding yield nodes
extract G fits_end h = elim h [ ]
extract G (fits_leaf {m} {rest} f s) (has_after h) =
    found_in G (m ∷ []) [] (ap (λ (x : List ℕ). m ∷ x) (sym (append-nil (yield rest)))) (omega arith)
    (λ j i. has_after) super_after (extract G s h)
extract G (fits_node o b s) (has_here p e) = found_here G o b p e
extract G (fits_node {rest} o b s) (has_below h) =
    found_in G [] (yield rest) refl (omega arith) (λ j i. has_below) super_below (extract G b h)
extract G (fits_node {below} {rest} o b s) (has_beside h) =
    found_in G (yield below) [] (ap (λ (x : List ℕ). yield below ++ x) (sym (append-nil (yield rest)))) (omega arith)
    (λ j i. has_beside) super_beside (extract G s h)

-- a part of a list is the whole if it is as long
pub middle-whole : (w x y z : List ℕ) → w ≡ x ++ (y ++ z) → length y ≡ length w → y ≡ w
middle-whole w [] y [] e l = sym (e ∙ append-nil y)
middle-whole w [] y (a ∷ z) e l = absurd (omega (arith, simp length-append at (ap length e)))
middle-whole w (a ∷ x) y z e l = absurd (omega (arith, simp length-append at (ap length e)))
