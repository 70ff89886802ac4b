-- `Fit`: a row fits its places, and no node has the span of a node above it, in the row or above the whole row. With nothing above,
-- these are the rows that fit and have no superfluous recursion. Assumes nothing.
use Prim.Native.Nat.{ℕ}
use mathlib.Core.Bool.{Bool, true, false, ◌&&◌, ◌||◌, or-true, true≢false, false≢true}
use mathlib.Core.List.{List, [], ◌∷◌}
use mathlib.Core.Logic.{◌⊎◌, inl, inr}
use mathlib.Core.Path.{◌≡◌, refl, sym, subst, ◌∙◌}
use lib.Dec.{eqb}
use lib.ListN.{length}
use Rattle.cfg.specs.Grammar.{Cfg, Symbol, nonterminal, terminal, Terminal, fits, Of}
use Rattle.cfg.specs.Tree.{Forest, end, leaf, node, yield, Fits, fits_end, fits_leaf, fits_node}
use Rattle.cfg.specs.Derivation.{Has, has_here, has_below, has_beside, has_after}
use Rattle.cfg.specs.Derivation.{Superfluous, super_here, super_below, super_beside, super_after}
use Rattle.cfg.specs.Listing.{Span, among}
use borrow.Author.Tests.{eq-eqb, eqb-true}
use Rattle.cfg.proofs.Of.{of-same-left}

abbrev pub span : ℕ → ℕ → Span
span k n = record { symbol = k; cover = n }

pub data Fit (G : Cfg) : List Span → List Symbol → Forest → Type 0 where
  fit-end : {above : List Span} → Fit G above [] end
  fit-leaf : {above : List Span} {t : Terminal} {m : ℕ} {places : List Symbol} {rest : Forest}
      → fits t m ≡ true → Fit G above places rest → Fit G above (terminal t ∷ places) (leaf m rest)
  fit-node : {above : List Span} {k r : ℕ} {places : List Symbol} {below rest : Forest} (o : Of G r k)
      → among k (length (yield below)) above ≡ false
      → Fit G (span k (length (yield below)) ∷ above) o.the.places below → Fit G above places rest
      → Fit G above (nonterminal k ∷ places) (node r below rest)

pub among_first : (k n : ℕ) (above : List Span) → among k n (span k n ∷ above) ≡ true
unfolding among
among_first k n above = rw (eq-eqb k k refl, eq-eqb n n refl)

pub among_later : (k n : ℕ) (s : Span) (above : List Span) → among k n above ≡ true → among k n (s ∷ above) ≡ true
unfolding among
among_later k n s above e = rw e (or-true (eqb s.symbol k && eqb s.cover n))

pub among_cases : (j m k n : ℕ) (above : List Span) → among k n (span j m ∷ above) ≡ true → ((j ≡ k) × (m ≡ n)) ⊎ (among k n above ≡ true)
unfolding among
among_cases j m k n above h = go (eqb j k) (eqb m n) refl refl h
  where
    go : (a b : Bool) → eqb j k ≡ a → eqb m n ≡ b → ((a && b) || among k n above) ≡ true → ((j ≡ k) × (m ≡ n)) ⊎ (among k n above ≡ true)
    go true true p q e = inl (eqb-true j k p, eqb-true m n q)
    go true false p q e = inr e
    go false b p q e = inr e

pub fit→fits : {G : Cfg} {above : List Span} {places : List Symbol} {t : Forest} → Fit G above places t → Fits G places t
fit→fits fit-end = fits_end
fit→fits (fit-leaf h f) = fits_leaf h (fit→fits f)
fit→fits (fit-node o h f g) = fits_node o (fit→fits f) (fit→fits g)

-- no node of the row has one of the spans above
pub fit-has-none : {G : Cfg} {above : List Span} {places : List Symbol} {t : Forest} {k n : ℕ} → Fit G above places t
    → among k n above ≡ true
    → Has G k n t → ⊥
fit-has-none {G = G} {k = k} {n = n} (fit-end {above = above}) a x9 = elim x9 [ ]
fit-has-none (fit-leaf h f) a (has_after i) = fit-has-none f a i
fit-has-none {k = k} {n} (fit-node {above} {k = j} {below = below} o h f g) a (has_here p e) =
    true≢false (sym a ∙ subst (λ x. among x n above ≡ false) (of-same-left o p) (subst (λ x. among j x above ≡ false) e h))
fit-has-none {k = k} {n} (fit-node {above} {k = j} {below = below} o h f g) a (has_below i) =
    fit-has-none f (among_later k n (span j (length (yield below))) above a) i
fit-has-none (fit-node o h f g) a (has_beside i) = fit-has-none g a i

pub fit-plain : {G : Cfg} {above : List Span} {places : List Symbol} {t : Forest} → Fit G above places t → Superfluous G t → ⊥
fit-plain {G = G} (fit-end {above = above}) x5 = elim x5 [ ]
fit-plain (fit-leaf h f) (super_after i) = fit-plain f i
fit-plain (fit-node {above} {k = j} {below = below} o h f g) (super_here {k} p i) =
    fit-has-none f (subst (λ x. among x (length (yield below)) (span j (length (yield below)) ∷ above) ≡ true) (of-same-left o p)
    (among_first j (length (yield below)) above)) i
fit-plain (fit-node o h f g) (super_below i) = fit-plain f i
fit-plain (fit-node o h f g) (super_beside i) = fit-plain g i

pub plain→fit : {G : Cfg} (above : List Span) {places : List Symbol} {t : Forest} → Fits G places t → ¬ Superfluous G t
    → ((k n : ℕ) → among k n above ≡ true → ¬ Has G k n t) → Fit G above places t
plain→fit above fits_end s h = fit-end
plain→fit above (fits_leaf e f) s h = fit-leaf e (plain→fit above f (λ i. s (super_after i)) (λ k n a i. h k n a (has_after i)))
plain→fit {G} above (fits_node {k} {below = below} o f g) s h =
    fit-node o (new (among k (length (yield below)) above) refl)
    (plain→fit (span k (length (yield below)) ∷ above) f (λ i. s (super_below i))
    (λ j n a. inside j n (among_cases k (length (yield below)) j n above a)))
    (plain→fit above g (λ i. s (super_beside i)) (λ j n a i. h j n a (has_beside i)))
  where
    new : (t : Bool) → among k (length (yield below)) above ≡ t → among k (length (yield below)) above ≡ false
    new true e = absurd (h k (length (yield below)) e (has_here o refl))
    new false e = e

    inside : (j n : ℕ) → ((k ≡ j) × (length (yield below) ≡ n)) ⊎ (among j n above ≡ true) → ¬ Has G j n below
    inside j n (inl p) i = s (super_here o (subst (λ x. Has G k x below) (sym p.1) (subst (λ x. Has G x n below) (sym p.0) i)))
    inside j n (inr a) i = h j n a (has_below i)

pub plain→fit-top : {G : Cfg} {places : List Symbol} {t : Forest} → Fits G places t → ¬ Superfluous G t → Fit G [] places t
unfolding among
plain→fit-top f s = plain→fit [] f s (λ k n a. absurd (false≢true a))
