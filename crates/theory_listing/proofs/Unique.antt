-- The grammar, the input and the code determine the tree, and no code of a tree is the beginning of the code of another one over the same
-- input. A code has two numbers for each node. Assumes nothing.
use Prim.Native.Nat.{ℕ, ◌*◌}
use mathlib.Core.List.{List, [], ◌++◌, append-nil, append_assoc, head-eq_of_cons-eq, tail-eq_of_cons-eq}
use mathlib.Core.Path.{◌≡◌, refl, sym, ap, ap₂, subst, ◌∙◌}
use lib.ListN.{length, length-append}
use native.Mathlib.Omega.{arith}
use Rattle.cfg.specs.Grammar.{Cfg, Symbol}
use Rattle.cfg.specs.Tree.{Forest, end, leaf, node, yield, nodes, code, Fits, fits_end, fits_leaf, fits_node}
use Rattle.cfg.proofs.Of.{of-same-rule}

pub length-code : (t : Forest) → length (code t) ≡ 2 * nodes t
unfolding code nodes
length-code end = refl
length-code (leaf m rest) = length-code rest
length-code (node r below rest) =
    let p = length-code below in
    let q = length-code rest in
    let a = length-append (code below) (code rest) in
    omega arith

-- two rows for the same places, each followed by something: if the bytes are the same as a whole, and the codes are, then the rows are
-- the same, and so is what follows
pub row-unique : (G : Cfg) {places : List Symbol} {t u : Forest} (x y v w : List ℕ) → Fits G places t → Fits G places u
    → yield t ++ v ≡ yield u ++ w → code t ++ x ≡ code u ++ y → (t ≡ u) × (x ≡ y) × (v ≡ w)
unfolding yield code
row-unique G x y v w fits_end fits_end p q = (refl, q, p)
row-unique G x y v w (fits_leaf {m = m} {rest = t} _ f) (fits_leaf {m = n} {rest = u} _ g) p q =
    let r = row-unique G x y v w f g (tail-eq_of_cons-eq p) q in
    (ap₂ leaf (head-eq_of_cons-eq p) r.0, r.1, r.2)
row-unique G x y v w (fits_node {r = i} {below = a} {rest = t} o fa ft) (fits_node {r = j} {below = b} {rest = u} o' fb fu) p q =
    let same : i ≡ j = head-eq_of_cons-eq (tail-eq_of_cons-eq q) in
    let bytes : yield a ++ (yield t ++ v) ≡ yield b ++ (yield u ++ w) =
    sym (append_assoc (yield a) (yield t) v) ∙ p ∙ append_assoc (yield b) (yield u) w in
    let numbers : code a ++ (code t ++ x) ≡ code b ++ (code u ++ y) =
    sym (append_assoc (code a) (code t) x) ∙ tail-eq_of_cons-eq (tail-eq_of_cons-eq q) ∙ append_assoc (code b) (code u) y in
    let fb' : Fits G o.the.places b = subst (λ l. Fits G l.places b) (sym (of-same-rule same o o')) fb in
    let r = row-unique G (code t ++ x) (code u ++ y) (yield t ++ v) (yield u ++ w) fa fb' bytes numbers in
    let s = row-unique G x y v w ft fu r.2 r.1 in
    (λ h. node (same h) (r.0 h) (s.0 h), s.1, s.2)

pub tree-unique : (G : Cfg) {places : List Symbol} (t u : Forest) → Fits G places t → Fits G places u → yield t ≡ yield u
    → code t ≡ code u → t ≡ u
tree-unique G t u f g p q = (row-unique G [] [] [] [] f g (ap (λ l. l ++ []) p) (ap (λ l. l ++ []) q)).0

-- over the same input no code is the beginning of another one
pub code-no-prefix : (G : Cfg) {places : List Symbol} {t u : Forest} (x : List ℕ) → Fits G places t → Fits G places u → yield t ≡ yield u
    → code u ≡ code t ++ x → x ≡ []
code-no-prefix G {u = u} x f g p q = (row-unique G x [] [] [] f g (ap (λ l. l ++ []) p) (sym q ∙ sym (append-nil (code u)))).1
