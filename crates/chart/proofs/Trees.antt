-- Cuts and trees: a cut whose pieces are nodes gives a row over the span. A row over the span gives a cut, if the chart has every node that
-- ends before the column, and the cells of the column are closed under the rules. Assumes nothing.
use Prim.Native.Nat.{ℕ, suc, ◌+◌, ◌≤◌, ◌<◌}
use mathlib.Core.Bool.{true, and-eq-true_iff}
use mathlib.Core.List.{List, [], ◌∷◌, ◌++◌, append-nil}
use mathlib.Core.Path.{◌≡◌, sym, ap, ◌∙◌, subst}
use native.Mathlib.Omega.{arith}
use lib.Dec.{ltb}
use lib.ListN.{length, get_or}
use lib.Seq.{slice, slice_empty, slice-cons}
use borrow.Author.Tests.{lt-ltb, ltb-true}
use Rattle.sets.specs.Set.{has}
use Rattle.cfg.specs.Grammar.{Cfg, Symbol, nonterminal, Terminal, fits, Of}
use Rattle.cfg.specs.Tree.{Forest, end, leaf, node, yield, Fits, fits_end, fits_leaf, fits_node, Parse}
use Rattle.chart.specs.Cell.{cell, fits_at}
use Rattle.chart.proofs.Cut.{Cut, cut_end, cut_leaf, cut_node}
use Rattle.chart.proofs.Slices.{slice-append, slice-split, slice-nil, slice-head}
use Rattle.chart.proofs.Inside.{Piece, ClosedBy}

-- a row for these places over u
abbrev pub Over : Cfg → List Symbol → List ℕ → Type 0
Over G places u = (row : Forest) × Fits G places row × (yield row ≡ u)

-- a node of the nonterminal k over u
abbrev pub Node : Cfg → ℕ → List ℕ → Type 0
Node G k u = (r : ℕ) × (o : Of G r k) × Over G o.the.places u

pub node→tree : (G : Cfg) (k : ℕ) (u : List ℕ) → Node G k u → (t : Forest) × Parse G k u t
unfolding yield
node→tree G k u (r, o, (below, f, e)) = (node r below end, (fits_node o f fits_end, append-nil (yield below) ∙ e))

one-node : {G : Cfg} {k : ℕ} {t : Forest} → Fits G (nonterminal k ∷ []) t → Node G k (yield t)
unfolding yield
one-node (fits_node {r = r} {below = below} o f fits_end) = (r, o, (below, f, sym (append-nil (yield below))))

pub tree→node : (G : Cfg) (k : ℕ) (u : List ℕ) → (t : Forest) × Parse G k u t → Node G k u
tree→node G k u (t, (f, e)) = subst (Node G k) e (one-node f)

-- ---- bytes

pub fits-at : (w : List ℕ) (a : ℕ) (t : Terminal) → fits_at w a t ≡ true → (a < length w) × (fits t (get_or w a 0) ≡ true)
unfolding fits_at
fits-at w a t e =
    let p = (and-eq-true_iff (ltb a (length w)) (fits t (get_or w a 0))).0 e in
    (ltb-true a (length w) p.0, p.1)

pub at-fits : (w : List ℕ) (a : ℕ) (t : Terminal) → a < length w → fits t (get_or w a 0) ≡ true → fits_at w a t ≡ true
unfolding fits_at
at-fits w a t h e = (and-eq-true_iff (ltb a (length w)) (fits t (get_or w a 0))).1 (lt-ltb a (length w) h, e)

module _ (G : Cfg) (w : List ℕ) (n : ℕ) (l : n ≤ length w) where
  -- ---- from a cut to a row

  pub cut→row : {places : List Symbol} {a : ℕ} → Cut (fits_at w) (λ (k a b : ℕ). Node G k (slice a b w)) n places a
      → Over G places (slice a n w)
  unfolding yield
  cut→row (cut_end {a} e) = (end, fits_end, sym (ap (λ (x : ℕ). slice x n w) e ∙ slice_empty n w))
  cut→row (cut_leaf {t} {a = a} m q c) =
      let (row, f, e) = cut→row c in
      let x = get_or w a 0 in
      (leaf x row, fits_leaf (fits-at w a t q).1 f, ap (λ (y : List ℕ). x ∷ y) e ∙ sym (slice-cons a n w 0 m l))
  cut→row (cut_node {a = a} b m m' (r, o, (below, g, d)) c) =
      let (row, f, e) = cut→row c in (
        node r below row,
        fits_node o g f,
        ap (λ (y : List ℕ). y ++ yield row) d ∙ ap (λ (y : List ℕ). slice a b w ++ y) e ∙ slice-append a b n w m m' l,
      )

  -- ---- from a row to a cut

  module _ (chart : List ℕ) (P : ℕ → ℕ → Type 0) (closed : ClosedBy G (fits_at w) chart n P)
      (full : (k a b : ℕ) → a ≤ b → b < n → Node G k (slice a b w) → has k (cell chart a b) ≡ true) where
    pub row→cut : {places : List Symbol} {row : Forest} → Fits G places row → (a : ℕ) → a ≤ n → yield row ≡ slice a n w
        → Cut (fits_at w) (Piece chart n P) n places a
    unfolding yield
    row→cut fits_end a h e = cut_end (slice-nil a n w h l e)
    row→cut (fits_leaf {t} {m} {rest = rest} q f) a h e =
        let (p, d, s) = slice-head a n w h l m (yield rest) e in
        cut_leaf p (at-fits w a t (omega arith) (subst (λ (x : ℕ). fits t x ≡ true) d q)) (row→cut f (suc a) p s)
    row→cut (fits_node {k} {r} {below = below} {rest = rest} o g f) a h e =
        let (m, s, s') = slice-split a n w h l (yield below) (yield rest) e in
        let b = a + length (yield below) in
        let h' : a ≤ b = omega arith in
        cut_node b h' m (
          λ p. full k a b h' p (r, o, (below, g, s)),
          λ p.
              let d : b ≡ n = omega arith in
              closed a r k h o (row→cut g a h (s ∙ ap (λ (x : ℕ). slice a x w) d)),
        )
        (row→cut f b m s')
