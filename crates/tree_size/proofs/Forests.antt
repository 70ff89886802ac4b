-- Two forests, one after the other, as one forest. Assumes nothing.
use Prim.Native.Nat.{ℕ, ◌+◌}
use mathlib.Core.List.{List, [], ◌∷◌, ◌++◌, append_assoc}
use mathlib.Core.Path.{◌≡◌, refl, sym, ap, ◌∙◌}
use native.Mathlib.Omega.{arith}
use lib.ListN.{length}
use Rattle.cfg.specs.Grammar.{Cfg, Symbol}
use Rattle.cfg.specs.Tree.{Forest, end, leaf, node, yield, nodes, code, Fits, fits_end, fits_leaf, fits_node}
use Rattle.tree_size.specs.Standing.{children_of}

-- the row of all siblings of both forests
unfoldable pub append : Forest → Forest → Forest
append end g = g
append (leaf m f) g = leaf m (append f g)
append (node r below f) g = node r below (append f g)

pub append-fits : {G : Cfg} {places others : List Symbol} {f g : Forest} → Fits G places f → Fits G others g
    → Fits G (places ++ others) (append f g)
unfolding append
append-fits fits_end h = h
append-fits (fits_leaf e f) h = fits_leaf e (append-fits f h)
append-fits (fits_node o b f) h = fits_node o b (append-fits f h)

pub append-nodes : (f g : Forest) → nodes (append f g) ≡ nodes f + nodes g
unfolding append nodes
append-nodes end g = omega arith
append-nodes (leaf m f) g = append-nodes f g
append-nodes (node r below f) g = let e = append-nodes f g in omega arith

pub append-code : (f g : Forest) → code (append f g) ≡ code f ++ code g
unfolding append code
append-code end g = refl
append-code (leaf m f) g = append-code f g
append-code (node r below f) g =
    ap (λ (e : List ℕ). length (yield below) ∷ r ∷ e)
    (ap (λ (e : List ℕ). code below ++ e) (append-code f g) ∙ sym (append_assoc (code below) (code f) (code g)))

-- the nonterminals of two rows of symbols
pub children-append : (places others : List Symbol) → children_of (places ++ others) ≡ children_of places + children_of others
unfolding children_of
children-append [] others = omega arith
children-append (s ∷ places) others = let e = children-append places others in omega arith
