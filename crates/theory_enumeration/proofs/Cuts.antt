-- Rows of a nonterminal and further places are cut after the first node and put together again. The first node's cover is the number of
-- their layer. Assumes nothing.
use Prim.Native.Nat.{ℕ, ◌+◌, ◌-◌, ◌≤◌, ◌<◌}
use mathlib.Core.List.{List, [], ◌∷◌, ◌++◌, append-nil}
use mathlib.Core.Path.{◌≡◌, refl, sym, ap, ap₂, subst, ◌∙◌}
use native.Mathlib.Omega.{arith}
use lib.ListN.{length}
use lib.Seq.{slice, length-slice}
use Rattle.cfg.specs.Grammar.{Cfg, Symbol, nonterminal}
use Rattle.cfg.specs.Tree.{Forest, end, node, yield, nodes, code, Fits, fits_end, fits_node}
use Rattle.cfg.specs.Derivation.{Superfluous, ◌≺◌, first_less}
use Rattle.chart.proofs.Slices.{slice-append, slice-split}
use Rattle.theory_enumeration.specs.Rows.{Free, Row, Tree, first_cover, Skipped, Share}
use Rattle.theory_enumeration.specs.Order.{Coded, NoForest}
use Rattle.theory_enumeration.proofs.Compare.{forests-compared}
use Rattle.theory_enumeration.proofs.Layered.{Layered}
use Rattle.theory_enumeration.proofs.Joined.{Split, Joined}
use Rattle.theory_enumeration.proofs.Rows.{row-budget}
use Rattle.theory_enumeration.proofs.Free.{join-plain, join_free, first_plain, first-free, beside-plain, beside-free}

module _ (G : Cfg) (w : List ℕ) (cover mask k : ℕ) (places : List Symbol) (from to budget : ℕ) where
  -- a forest of the row, cut after its first node, which covers c bytes
  pub record Cut (c : ℕ) (t : Forest) : Type 0 where
    pub first : Forest
    pub rest : Forest
    pub inside : from + c ≤ to
    pub child : Tree G w cover mask k from (from + c) budget first
    pub others : Row G w cover mask places (from + c) to (budget - nodes first) rest
    pub coded : code t ≡ code first ++ code rest

  -- the forests of the row whose first node covers c bytes
  abbrev pub Covering : ℕ → Forest → Type 0
  Covering c t = Row G w cover mask (nonterminal k ∷ places) from to budget t × (first_cover t ≡ c)

  module _ (known : to ≤ length w) where
    pub row_cut : from ≤ to → (t : Forest) → Row G w cover mask (nonterminal k ∷ places) from to budget t → Cut (first_cover t) t
    unfolding yield nodes code first_cover
    row_cut rising t a = go a.fit a.covers a.plain a.free a.small
      where
        go : {t : Forest} → Fits G (nonterminal k ∷ places) t → yield t ≡ slice from to w → ¬ Superfluous G t → Free G cover mask t
            → nodes t ≤ budget → Cut (first_cover t) t
        go (fits_node {r = r} {below = below} {rest = rest} o f g) c s z n =
            let x = slice-split from to w rising known (yield below) (yield rest) c in
            record {
              first = node r below end;
              rest = rest;
              inside = x.0;
              child = record {
                fit = fits_node o f fits_end;
                covers = append-nil (yield below) ∙ x.1;
                plain = first_plain G r below rest s;
                free = first-free G r below rest cover mask z;
                small = omega arith;
              };
              others = record {
                fit = g;
                covers = x.2;
                plain = beside-plain G r below rest s;
                free = beside-free G r below rest cover mask z;
                small = omega arith;
              };
              coded = ap (λ (l : List ℕ). length (yield below) ∷ r ∷ (l ++ code rest)) (sym (append-nil (code below)));
            }

    pub row-join : (c : ℕ) → from + c ≤ to → (x y : Forest) → Tree G w cover mask k from (from + c) budget x
        → Row G w cover mask places (from + c) to (budget - nodes x) y → Coded (Covering c) (code x ++ code y)
    unfolding yield nodes code first_cover
    row-join c l x y a b = go a.fit a.covers a.plain a.free a.small b.small
      where
        go : {x : Forest} → Fits G (nonterminal k ∷ []) x → yield x ≡ slice from (from + c) w → ¬ Superfluous G x → Free G cover mask x
            → nodes x ≤ budget → nodes y ≤ budget - nodes x → Coded (Covering c) (code x ++ code y)
        go (fits_node {r = r} {below = below} o f fits_end) u s z n m =
            let v : yield below ≡ slice from (from + c) w = sym (append-nil (yield below)) ∙ u in
            record {
              forest = node r below y;
              member = (
                record {
                  fit = fits_node o f b.fit;
                  covers = ap₂ ◌++◌ v b.covers ∙ slice-append from (from + c) to w (omega arith) l known;
                  plain = join-plain G r below y s b.plain;
                  free = join_free G r below y cover mask z b.free;
                  small = omega arith;
                },
                omega (arith, ap length v, length-slice from (from + c) w (omega arith)),
              );
              coded = ap (λ (l : List ℕ). length (yield below) ∷ r ∷ (l ++ code y)) (sym (append-nil (code below)));
            }

    module _ (rising : from ≤ to) where
      pub covering-cut : (c : ℕ) (t : Forest) → Covering c t → Cut c t
      covering-cut c t a = subst (λ (x : ℕ). Cut x t) a.1 (row_cut rising t a.0)

      pub skipped-none : (c : ℕ) → (from + c ≤ to → Skipped G w cover mask k places from to budget c) → NoForest (Covering c)
      skipped-none c n t a =
          let x = covering-cut c t a in
          n x.inside x.first x.rest x.child x.others

      pub row-layered : Layered (Row G w cover mask (nonterminal k ∷ places) from to budget) Covering
      unfolding code first_cover
      row-layered = record {
        into = λ c t a. a.0;
        out = λ t a. (first_cover t, (a, refl));
        sorted = λ c d t u l a b. sorted a.0.fit b.0.fit a.1 b.1 l;
      }
        where
          sorted : {c d : ℕ} {t u : Forest} → Fits G (nonterminal k ∷ places) t → Fits G (nonterminal k ∷ places) u → first_cover t ≡ c
              → first_cover u ≡ d → c < d → code t ≺ code u
          sorted (fits_node {below = below} o f g) (fits_node {below = below'} p h i) x y l =
              let z : length (yield below) < length (yield below') = omega arith in
              first_less z

    -- `share` is what the first node may cost
    pub row-joined : (rising : from ≤ to) (c share : ℕ) → from + c ≤ to → Share G w cover mask k places from to budget c share
        → Joined (Tree G w cover mask k from (from + c) share) (λ n. Row G w cover mask places (from + c) to (budget - n)) (Covering c)
    row-joined rising c share l b = record {
      join = λ x y p q. row-join c l x y (row-budget G w p (omega arith)) q;
      split = split;
      ordered = λ x u p q. forests-compared G p.fit q.fit (p.covers ∙ sym q.covers);
    }
      where
        split : (t : Forest) → Covering c t
            → Split (Tree G w cover mask k from (from + c) share) (λ n. Row G w cover mask places (from + c) to (budget - n)) (code t)
        split t a =
            let x = covering-cut rising c t a in
            record {
              first = x.first;
              rest = x.rest;
              first-in = row-budget G w x.child (b.enough x.first x.rest x.child x.others);
              rest_in = x.others;
              coded = x.coded;
            }
