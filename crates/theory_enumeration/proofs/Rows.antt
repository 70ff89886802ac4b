-- Rows of no places, rows of a terminal and a row, and the part of the mask that matters for a row over fewer bytes. Assumes nothing.
use Prim.Native.Nat.{ℕ, suc, ◌+◌, ◌-◌, ◌≤◌, ◌<◌}
use mathlib.Core.Bool.{true}
use mathlib.Core.List.{List, [], ◌∷◌}
use mathlib.Core.Path.{◌≡◌, refl, sym, ap, subst, ◌∙◌}
use native.Mathlib.Decide.{ℕ_discrete}
use native.Mathlib.Omega.{arith}
use lib.ListN.{length, get_or}
use lib.Seq.{slice, slice-cons, slice_empty, length-slice}
use Rattle.cfg.specs.Grammar.{Cfg, Symbol, terminal, Terminal, fits}
use Rattle.cfg.specs.Tree.{Forest, end, leaf, node, yield, nodes, code, Fits, fits_end, fits_leaf}
use Rattle.cfg.specs.Derivation.{Superfluous}
use Rattle.chart.proofs.Slices.{slice-nil, slice-head}
use Rattle.theory_enumeration.specs.Rows.{Free, Row, SameSpan}
use Rattle.theory_enumeration.proofs.Prefixed.{Prefixed}
use Rattle.theory_enumeration.proofs.Free.{free-narrow, free-empty, end-plain, end-free}
use Rattle.theory_enumeration.proofs.Free.{leaf-plain, leaf-free, after-plain, after_free}

module _ (G : Cfg) (w : List ℕ) where
  -- a row over a span has as many bytes as the span
  pub row-length : {cover mask from to budget : ℕ} {places : List Symbol} {t : Forest} → to ≤ length w
      → Row G w cover mask places from to budget t → length (yield t) ≡ to - from
  row-length {from = from} {to} l r = ap length r.covers ∙ length-slice from to w l

  -- another budget that is large enough for the forest
  pub row-budget : {cover mask from to budget other : ℕ} {places : List Symbol} {t : Forest} → Row G w cover mask places from to budget t
      → nodes t ≤ other → Row G w cover mask places from to other t
  row-budget r l = record { fit = r.fit; covers = r.covers; plain = r.plain; free = r.free; small = l }

  -- ---- the part of the mask that matters for a row over c bytes

  module _ {cover mask c own from to budget : ℕ} {places : List Symbol} (s : SameSpan cover mask c own) (narrow : c ≤ cover)
      (size : from + c ≡ to) (known : to ≤ length w) where
    pub row-wider : (t : Forest) → Row G w c own places from to budget t → Row G w cover mask places from to budget t
    row-wider t r =
        record { fit = r.fit; covers = r.covers; plain = r.plain; free = go (ℕ_discrete c cover); small = r.small }
      where
        go : Dec (c ≡ cover) → Free G cover mask t
        go (yes x) = subst (λ (n : ℕ). Free G n mask t) x (subst (λ (n : ℕ). Free G c n t) (s.same x) r.free)
        go (no d) = free-narrow G cover mask t (omega (arith, row-length known r))

    pub row-narrower : (t : Forest) → Row G w cover mask places from to budget t → Row G w c own places from to budget t
    row-narrower t r =
        record { fit = r.fit; covers = r.covers; plain = r.plain; free = go (ℕ_discrete c cover); small = r.small }
      where
        go : Dec (c ≡ cover) → Free G c own t
        go (yes x) = subst (λ (n : ℕ). Free G n own t) (sym x) (subst (λ (n : ℕ). Free G cover n t) (sym (s.same x)) r.free)
        go (no d) = subst (λ (n : ℕ). Free G c n t) (sym (s.other d)) (free-empty G c t)

    pub row-own : Prefixed [] (Row G w c own places from to budget) (Row G w cover mask places from to budget)
    row-own = record {
      up = λ t r. record { forest = t; member = row-wider t r; coded = refl };
      down = λ t r. (t, row-narrower t r, refl);
    }

  module _ (cover mask from to budget : ℕ) where
    -- ---- no places

    pub row-end : from ≡ to → Row G w cover mask [] from to budget end
    unfolding yield nodes
    row-end e = record {
      fit = fits_end;
      covers = sym (ap (λ (x : ℕ). slice from x w) (sym e) ∙ slice_empty from w);
      plain = end-plain G;
      free = end-free G cover mask;
      small = omega arith;
    }

    pub end_row : (t : Forest) → from ≤ to → to ≤ length w → Row G w cover mask [] from to budget t → (from ≡ to) × (t ≡ end)
    unfolding yield
    end_row t h l r = go t r.fit r.covers
      where
        go : (u : Forest) → Fits G [] u → yield u ≡ slice from to w → (from ≡ to) × (u ≡ end)
        go end fits_end c = (slice-nil from to w h l c, refl)
        go (leaf _ _) x c = elim x [ ]
        go (node _ _ _) x c = elim x [ ]

    module _ (places : List Symbol) (rising : from ≤ to) (known : to ≤ length w) where
      -- ---- a terminal

      pub row-leaf : (t : Terminal) (u : Forest) → from < to → fits t (get_or w from 0) ≡ true
          → Row G w cover mask places (from + 1) to budget u
          → Row G w cover mask (terminal t ∷ places) from to budget (leaf (get_or w from 0) u)
      unfolding yield nodes
      row-leaf t u h f r =
          let i : from + 1 ≡ suc from = omega arith in
          record {
            fit = fits_leaf f r.fit;
            covers =
                ap (λ (l : List ℕ). get_or w from 0 ∷ l) (r.covers ∙ ap (λ (x : ℕ). slice x to w) i) ∙ sym (slice-cons from to w 0 h known);
            plain = leaf-plain G (get_or w from 0) u r.plain;
            free = leaf-free G (get_or w from 0) u cover mask r.free;
            small = r.small;
          }

      -- the rest of a row that begins with a leaf
      pub record Eaten (t : Terminal) (e : List ℕ) : Type 0 where
        pub more : from < to
        pub fit : fits t (get_or w from 0) ≡ true
        pub rest : Forest
        pub row : Row G w cover mask places (from + 1) to budget rest
        pub coded : e ≡ code rest

      pub leaf-row : (t : Terminal) (v : Forest) → Row G w cover mask (terminal t ∷ places) from to budget v → Eaten t (code v)
      unfolding yield nodes code
      leaf-row t v r = go r.fit r.covers r.plain r.free r.small
        where
          go : {v : Forest} → Fits G (terminal t ∷ places) v → yield v ≡ slice from to w → ¬ Superfluous G v → Free G cover mask v
              → nodes v ≤ budget → Eaten t (code v)
          go (fits_leaf {m = m} {rest = rest} f g) c s z n =
              let x = slice-head from to w rising known m (yield rest) c in
              let i : suc from ≡ from + 1 = omega arith in
              record {
                more = x.0;
                fit = subst (λ (y : ℕ). fits t y ≡ true) x.1 f;
                rest = rest;
                row = record {
                  fit = g;
                  covers = x.2 ∙ ap (λ (y : ℕ). slice y to w) i;
                  plain = after-plain G m rest s;
                  free = after_free G m rest cover mask z;
                  small = n;
                };
                coded = refl;
              }

      pub leaf-prefixed : (t : Terminal) → from < to → fits t (get_or w from 0) ≡ true
          → Prefixed [] (Row G w cover mask places (from + 1) to budget) (Row G w cover mask (terminal t ∷ places) from to budget)
      unfolding code
      leaf-prefixed t h f = record {
        up = λ u r. record { forest = leaf (get_or w from 0) u; member = row-leaf t u h f r; coded = refl };
        down = λ v r. let x = leaf-row t v r in (x.rest, x.row, x.coded);
      }
