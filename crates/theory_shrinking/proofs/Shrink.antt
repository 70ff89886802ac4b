-- For each row that fits there is one without superfluous recursion, over the same bytes and with no more nodes. It has a nonterminal
-- over a number of bytes only if the first row has. So if no derivation has at most b nodes, each parse tree has more than b nodes.
-- Assumes nothing.
use Prim.Native.Nat.{ℕ, ◌≤◌, ◌<◌}
use native.Mathlib.Nat.{le_trans}
use native.Mathlib.Decide.{dec_le}
use native.Mathlib.Omega.{arith}
use mathlib.Core.Logic.{dite}
use mathlib.Core.Path.{◌≡◌, refl, sym, ap, ap₂, ◌∙◌, subst}
use mathlib.Core.List.{List, [], ◌∷◌, ◌++◌}
use lib.ListN.{length}
use Rattle.cfg.specs.Grammar.{Cfg, Symbol, nonterminal, Of}
use Rattle.cfg.specs.Tree.{Forest, end, leaf, node, yield, nodes, code, Fits, fits_end, fits_leaf, fits_node, Parse}
use Rattle.cfg.specs.Derivation.{Has, has_here, has_below, has_beside, has_after, Derivation}
use Rattle.cfg.specs.Derivation.{Superfluous, super_here, super_below, super_beside, super_after}
use Rattle.cfg.proofs.Of.{of-same-left}
use Rattle.theory_shrinking.proofs.Decide.{has-dec}
use Rattle.theory_shrinking.proofs.Extract.{Found, extract, middle-whole}

-- a row for the same places over the same bytes as t, without superfluous recursion
pub record Shrunk (G : Cfg) (places : List Symbol) (t : Forest) : Type 0 where
  pub row : Forest
  pub fitted : Fits G places row
  pub same : yield row ≡ yield t
  pub plain : ¬ Superfluous G row
  pub fewer : nodes row ≤ nodes t
  pub from : (k n : ℕ) → Has G k n row → Has G k n t

pub shrunk-end : (G : Cfg) → Shrunk G [] end
shrunk-end G = record {
  row = end;
  fitted = fits_end;
  same = refl;
  plain = λ h. elim h [ ];
  fewer = omega arith;
  from = λ k n h. h;
}

pub shrunk-leaf : (G : Cfg) {places : List Symbol} {s : Symbol} {m : ℕ} {rest : Forest} → Shrunk G places rest
    → ((u : Forest) → Fits G places u → Fits G (s ∷ places) (leaf m u)) → Shrunk G (s ∷ places) (leaf m rest)
unfolding yield nodes
shrunk-leaf G {m} {rest} S f = record {
  row = leaf m S.row;
  fitted = f S.row S.fitted;
  same = ap {B = List ℕ} (λ (x : List ℕ). m ∷ x) S.same;
  plain = plain;
  fewer = S.fewer;
  from = from;
}
  where
    plain : ¬ Superfluous G (leaf m S.row)
    plain (super_after h) = S.plain h

    from : (k n : ℕ) → Has G k n (leaf m S.row) → Has G k n (leaf m rest)
    from k n (has_after h) = has_after (S.from k n h)

-- a node stays if the shrunk row below it has no node of its nonterminal over as many bytes
pub shrunk-keep : (G : Cfg) {k r : ℕ} {places : List Symbol} {below rest : Forest} (o : Of G r k) (B : Shrunk G o.the.places below)
    → Shrunk G places rest → ¬ Has G k (length (yield B.row)) B.row → Shrunk G (nonterminal k ∷ places) (node r below rest)
unfolding yield nodes
shrunk-keep G {k} {r} {below} {rest} o B S n = record {
  row = node r B.row S.row;
  fitted = fits_node o B.fitted S.fitted;
  same = ap₂ (λ (x y : List ℕ). x ++ y) B.same S.same;
  plain = plain;
  fewer = omega arith;
  from = from;
}
  where
    plain : ¬ Superfluous G (node r B.row S.row)
    plain (super_here p h) = n (subst (λ (j : ℕ). Has G j (length (yield B.row)) B.row) (of-same-left p o) h)
    plain (super_below h) = B.plain h
    plain (super_beside h) = S.plain h

    from : (j m : ℕ) → Has G j m (node r B.row S.row) → Has G j m (node r below rest)
    from j m (has_here p e) = has_here p (ap length (sym B.same) ∙ e)
    from j m (has_below h) = has_below (B.from j m h)
    from j m (has_beside h) = has_beside (S.from j m h)

-- if it has such a node, that node takes the place of the one above it
pub shrunk-replace : (G : Cfg) {k r : ℕ} {places inner : List Symbol} {below rest : Forest} (B : Shrunk G inner below)
    → Shrunk G places rest → Found G k (length (yield B.row)) B.row → Shrunk G (nonterminal k ∷ places) (node r below rest)
unfolding yield nodes
shrunk-replace G {k} {r} {below} {rest} B S F = record {
  row = node F.number F.below S.row;
  fitted = fits_node F.of F.fitted S.fitted;
  same = ap₂ (λ (x y : List ℕ). x ++ y)
      (middle-whole (yield B.row) F.before (yield F.below) F.after F.split F.cover ∙ B.same) S.same;
  plain = plain;
  fewer = omega arith;
  from = from;
}
  where
    plain : ¬ Superfluous G (node F.number F.below S.row)
    plain (super_here p h) = B.plain (F.super (super_here p h))
    plain (super_below h) = B.plain (F.super (super_below h))
    plain (super_beside h) = S.plain h

    from : (j m : ℕ) → Has G j m (node F.number F.below S.row) → Has G j m (node r below rest)
    from j m (has_here p e) = has_below (B.from j m (F.from j m (has_here p e)))
    from j m (has_below h) = has_below (B.from j m (F.from j m (has_below h)))
    from j m (has_beside h) = has_beside (S.from j m h)

pub shrunk-node : (G : Cfg) {k r : ℕ} {places : List Symbol} {below rest : Forest} (o : Of G r k) → Shrunk G o.the.places below
    → Shrunk G places rest → Shrunk G (nonterminal k ∷ places) (node r below rest)
shrunk-node G {k} o B S = dite (has-dec G k (length (yield B.row)) B.row)
    (λ h. shrunk-replace G B S (extract G B.fitted h))
    (λ n. shrunk-keep G o B S n)

pub shrink : (G : Cfg) {places : List Symbol} {t : Forest} → Fits G places t → Shrunk G places t
shrink G fits_end = shrunk-end G
shrink G (fits_leaf f s) = shrunk-leaf G (shrink G s) (λ u h. fits_leaf f h)
shrink G (fits_node o b s) = shrunk-node G o (shrink G b) (shrink G s)

pub shrunk-parse : (G : Cfg) {k : ℕ} {w : List ℕ} {t : Forest} → Parse G k w t
    → (u : Forest) × Parse G k w u × (¬ Superfluous G u) × (nodes u ≤ nodes t)
shrunk-parse G p = let S = shrink G p.0 in (S.row, (S.fitted, S.same ∙ p.1), S.plain, S.fewer)

pub small-tree→derivation : (G : Cfg) (b : ℕ) (w : List ℕ) (t : Forest) → Parse G G.start w t → nodes t ≤ b
    → (e : List ℕ) × Derivation G b w e
small-tree→derivation G b w t p l = let s = shrunk-parse G p in
    (code s.0, record { tree = s.0; parse = s.1; plain = s.2; small = le_trans s.3 l; coded = refl })

-- if no derivation has at most b nodes, each parse tree has more than b nodes
pub no-derivation→large : (G : Cfg) (b : ℕ) (w : List ℕ) → ((e : List ℕ) → Derivation G b w e → ⊥) → (t : Forest)
    → Parse G G.start w t → b < nodes t
no-derivation→large G b w n t p = dite (dec_le (nodes t) b)
    (λ l. let d = small-tree→derivation G b w t p l in absurd (n d.0 d.1))
    (λ g. omega arith)
