-- Lists of bytes that are possible in a span, put together and taken apart. Those of one input are its slices, so trees over its bytes are
-- its parse trees. At the end: the least number of nodes of a set of forests. Assumes nothing.
use Prim.Native.Nat.{ℕ, suc, ◌+◌, ◌≤◌, ◌<◌}
use mathlib.Core.Bool.{true}
use mathlib.Core.List.{List, [], ◌∷◌, ◌++◌}
use mathlib.Core.Logic.{◌↔◌}
use mathlib.Core.Path.{◌≡◌, refl, sym, ap, ◌∙◌, subst}
use native.Mathlib.Omega.{arith}
use lib.ListN.{length, get_or}
use lib.Seq.{slice, slice_empty, slice-cons}
use Rattle.sizes.specs.Sizes.{too_many}
use Rattle.cfg.specs.Grammar.{Cfg, fits}
use Rattle.cfg.specs.Tree.{Forest, yield, nodes, Parse}
use Rattle.chart.specs.Cell.{fits_at}
use Rattle.chart.proofs.Slices.{slice-nil, slice-head}
use Rattle.chart.proofs.Trees.{fits-at, at-fits}
use Rattle.theory_costs.proofs.Lowest.{lowest-unique}
use Rattle.theory_costs.specs.Span.{bytes_of, Tells, Reads, reads_end, reads_byte, TreeOver, Least}

module _ {bytes : ℕ → ℕ → Type 0} where
  pub reads-length : {b a : ℕ} {u : List ℕ} → Reads bytes b a u → a + length u ≡ b
  reads-length (reads_end e) = omega arith
  reads-length (reads_byte {u = u} p r) = omega (arith, reads-length r)

  pub reads-append : {b c a : ℕ} {u v : List ℕ} → Reads bytes c a u → Reads bytes b c v → Reads bytes b a (u ++ v)
  reads-append {b = b} {v = v} (reads_end e) s = subst (λ (x : ℕ). Reads bytes b x v) (sym e) s
  reads-append (reads_byte p r) s = reads_byte p (reads-append r s)

  pub reads-split : {a b : ℕ} (u v : List ℕ) → Reads bytes b a (u ++ v) → Reads bytes (a + length u) a u × Reads bytes b (a + length u) v
  reads-split {a} {b} [] v r =
      let e : a ≡ a + 0 = omega arith in
      (reads_end e, subst (λ (x : ℕ). Reads bytes b x v) e r)
  reads-split {a} {b} (m ∷ u) v (reads_byte p r) =
      let (s, t) = reads-split u v r in
      let e : suc a + length u ≡ a + length (m ∷ u) = omega arith in
      (reads_byte p (subst (λ (x : ℕ). Reads bytes x (suc a) u) e s), subst (λ (x : ℕ). Reads bytes b x v) e t)

  -- an empty span has no bytes
  pub reads-nil : {a : ℕ} {u : List ℕ} → Reads bytes a a u → u ≡ []
  reads-nil (reads_end e) = refl
  reads-nil (reads_byte p r) = absurd (omega (arith, reads-length r))

-- ---- the bytes of one input

module _ (w : List ℕ) where
  pub tells-input : Tells (fits_at w) (bytes_of w)
  tells-input a t = (
    λ e. let (l, f) = fits-at w a t e in (get_or w a 0, (l, refl), f),
    λ p. let (m, (l, e), f) = p in at-fits w a t l (subst (λ (x : ℕ). fits t x ≡ true) e f),
  )

  pub reads-slice : {b a : ℕ} {u : List ℕ} → b ≤ length w → Reads (bytes_of w) b a u → u ≡ slice a b w
  reads-slice {b} {a} l (reads_end e) = sym (ap (λ (x : ℕ). slice x b w) e ∙ slice_empty b w)
  reads-slice {b} {a} l (reads_byte {u = u} (p, e) r) =
      let h : a < b = omega (arith, reads-length r) in
      ap (λ (x : ℕ). x ∷ u) e ∙ ap {B = List ℕ} (λ (x : List ℕ). get_or w a 0 ∷ x) (reads-slice l r) ∙ sym (slice-cons a b w 0 h l)

  pub slice-reads : {a b : ℕ} (u : List ℕ) → a ≤ b → b ≤ length w → u ≡ slice a b w → Reads (bytes_of w) b a u
  slice-reads {a} {b} [] h l e = reads_end (slice-nil a b w h l e)
  slice-reads {a} {b} (m ∷ u) h l e =
      let (p, d, s) = slice-head a b w h l m u e in
      reads_byte {a = a} (omega arith, d) (slice-reads u p l s)

  -- trees over the bytes of an input are its parse trees
  pub tree-parse : (G : Cfg) {k a b : ℕ} {t : Forest} → a ≤ b → b ≤ length w → TreeOver G (bytes_of w) k a b t ↔ Parse G k (slice a b w) t
  tree-parse G {t = t} h l = (
    λ T. (T.fitted, reads-slice l T.reads),
    λ p. record { fitted = p.0; reads = slice-reads (yield t) h l p.1 },
  )

-- ---- the least number of nodes

-- to reach v, a forest of at most v nodes is enough
pub least_by : {P : Forest → Type 0} {v : ℕ} → v ≤ too_many → (v < too_many → (f : Forest) × P f × (nodes f ≤ v))
    → ((f : Forest) → P f → v ≤ nodes f) → Least P v
least_by c r b = record {
  capped = c;
  reached = λ l. let (f, p, m) = r l in (f, p, omega (arith, b f p));
  below = λ u q. let (f, p, e) = q in omega (arith, b f p);
}

pub least-reached : {P : Forest → Type 0} {v : ℕ} → Least P v → v < too_many → (f : Forest) × P f × (nodes f ≤ v)
least-reached L l = let (f, p, e) = L.reached l in (f, p, omega arith)

pub least-below : {P : Forest → Type 0} {v : ℕ} → Least P v → (f : Forest) → P f → v ≤ nodes f
least-below L f p = L.below (nodes f) (f, p, refl)

-- for each forest of one of two sets, the other has one with no more nodes
pub least-same : {P Q : Forest → Type 0} {v : ℕ} → ((f : Forest) → P f → (g : Forest) × Q g × (nodes g ≤ nodes f))
    → ((f : Forest) → Q f → (g : Forest) × P g × (nodes g ≤ nodes f)) → Least P v → Least Q v
least-same to from L = least_by L.capped
    (λ l. let (f, p, e) = L.reached l in let (g, q, m) = to f p in (g, q, omega arith))
    (λ f q. let (g, p, m) = from f q in omega (arith, least-below L g p))

-- the empty trees are the same at each position
pub tree-empty : {G : Cfg} {bytes : ℕ → ℕ → Type 0} {k a : ℕ} {t : Forest} (b : ℕ) → TreeOver G bytes k a a t → TreeOver G bytes k b b t
tree-empty {bytes = bytes} b T = record {
  fitted = T.fitted;
  reads = subst (Reads bytes b b) (sym (reads-nil T.reads)) (reads_end refl);
}

pub least-moved : {G : Cfg} {bytes : ℕ → ℕ → Type 0} {k a v : ℕ} (b : ℕ) → Least (TreeOver G bytes k a a) v
    → Least (TreeOver G bytes k b b) v
least-moved {a = a} b = least-same (λ t T. (t, tree-empty b T, omega arith)) (λ t T. (t, tree-empty a T, omega arith))

pub least-empty : {G : Cfg} {bytes : ℕ → ℕ → Type 0} {k a b u v : ℕ} → Least (TreeOver G bytes k a a) u → Least (TreeOver G bytes k b b) v
    → u ≡ v
least-empty {b = b} L M = lowest-unique (least-moved b L) M
