-- Decoding the bytes and the code of a forest that fits gives it back. Assumes nothing.
use Prim.Native.Nat.{ℕ, zero, suc, ◌+◌, ◌≤◌}
use native.Mathlib.Omega.{arith}
use mathlib.Core.List.{List, [], ◌∷◌, ◌++◌, append-nil, append_assoc}
use mathlib.Core.Path.{◌≡◌, refl, ap, ap₂, ◌∙◌}
use lib.ListN.{length, length-append}
use lib.Seq.{drop-append_seam}
use Rattle.cfg.specs.Grammar.{Cfg, Symbol, nonterminal}
use Rattle.cfg.specs.Tree.{Forest, leaf, node, yield, code, Fits, fits_end, fits_leaf, fits_node}
use Rattle.cfg.specs.Derivation.{Derivation}
use Rattle.cfg.specs.Decode.{places_of, with_siblings, row_in, below_in, forest_in}

-- a node and its siblings, from the bytes and the numbers of the forest below it and then those of the siblings
node-decoded : (under : ℕ → List ℕ → List ℕ → Forest) (k c r : ℕ) (places : List Symbol) (below rest : Forest) (v x : List ℕ)
    → under r (yield below ++ v) (code below ++ x) ≡ below → row_in under places v x ≡ rest
    → row_in under (nonterminal k ∷ places) (yield below ++ v) (c ∷ r ∷ (code below ++ x)) ≡ node r below rest
unfolding row_in with_siblings
node-decoded under k c r places below rest v x p q =
    ap (λ t. with_siblings r t (row_in under places) (yield below ++ v) (code below ++ x)) p
    ∙ ap₂ (λ l d. node r below (row_in under places l d)) (drop-append_seam (yield below) v) (drop-append_seam (code below) x)
    ∙ ap (node r below) q

-- a forest that fits, with more bytes and numbers after its own
pub row-decoded : (G : Cfg) (n : ℕ) {places : List Symbol} {t : Forest} (v x : List ℕ) → Fits G places t → length (code t) ≤ n
    → row_in (below_in G n) places (yield t ++ v) (code t ++ x) ≡ t
unfolding yield code row_in below_in places_of
row-decoded G n v x fits_end h = refl
row-decoded G n v x (fits_leaf {m = m} _ f) h = ap (leaf m) (row-decoded G n v x f h)
row-decoded G zero v x (fits_node o f g) h = absurd (omega arith)
row-decoded G (suc n) v x (fits_node {k} {r} {places} {below} {rest} o f g) h =
    let size : length (code below) + length (code rest) ≤ n = omega (arith, length-append (code below) (code rest)) in
    rw (append_assoc (yield below) (yield rest) v, append_assoc (code below) (code rest) x)
    (node-decoded (below_in G (suc n)) k (length (yield below)) r places below rest (yield rest ++ v) (code rest ++ x)
    (rw o.here (row-decoded G n (yield rest ++ v) (code rest ++ x) f (omega arith)))
    (row-decoded G (suc n) v x g (omega arith)))

pub forest-decoded : (G : Cfg) {places : List Symbol} {t : Forest} → Fits G places t → forest_in G places (yield t) (code t) ≡ t
unfolding forest_in
forest-decoded G {places} {t} f =
    rw (append-nil (yield t), append-nil (code t)) at (row-decoded G (length (code t)) [] [] f (omega arith))

pub derivation-decoded : {G : Cfg} {b : ℕ} {w e : List ℕ} (d : Derivation G b w e) → forest_in G (nonterminal G.start ∷ []) w e ≡ d.tree
derivation-decoded {G} d = rw (d.parse.1, d.coded) at (forest-decoded G d.parse.0)
