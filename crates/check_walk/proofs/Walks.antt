-- A walked row is made of its first place and the rest, and can be taken apart again; there is at most one. Assumes nothing.
use Prim.Native.Nat.{ℕ, suc, ◌+◌, ◌*◌, ◌≤◌, ◌<◌}
use mathlib.Core.Bool.{true}
use mathlib.Core.List.{List, [], ◌∷◌, ◌++◌}
use mathlib.Core.Path.{◌≡◌, refl, sym, ap, subst, ◌∙◌}
use native.Mathlib.Omega.{arith}
use lib.ListN.{length, get_or, drop}
use lib.Seq.{slice, slice-cons, slice_empty}
use Rattle.cfg.specs.Grammar.{Cfg, Symbol, terminal, Terminal, fits}
use Rattle.cfg.specs.Tree.{Forest, end, leaf, yield, nodes, code, Fits, fits_end, fits_leaf}
use Rattle.cfg.specs.Derivation.{Superfluous}
use Rattle.chart.proofs.Slices.{slice-nil, slice-head}
use Rattle.theory_listing.proofs.Unique.{row-unique}
use Rattle.theory_enumeration.specs.Rows.{Free}
use Rattle.theory_enumeration.proofs.Free.{end-plain, end-free, leaf-plain, leaf-free, after-plain, after_free}
use Rattle.check_walk.specs.Walk.{Walked}

module _ {G : Cfg} {w e : List ℕ} {n cover mask : ℕ} where
  -- ---- at most one row

  pub walk-unique : {places : List Symbol} {at from to next next' : ℕ} → Walked G w e n cover mask places at from to next
      → Walked G w e n cover mask places at from to next' → next ≡ next'
  walk-unique {at = at} {next = next} {next'} a b =
      let u = row-unique G (drop (2 * next) e) (drop (2 * next') e) [] [] a.fit b.fit
      (ap (λ (l : List ℕ). l ++ []) (a.covers ∙ sym b.covers)) (a.coded ∙ sym b.coded) in
      a.ends ∙ ap (λ (t : Forest). at + nodes t) u.0 ∙ sym b.ends

  -- ---- the end of a row

  pub walk_end : {at from to : ℕ} → at ≤ n → from ≡ to → Walked G w e n cover mask [] at from to at
  unfolding yield code nodes
  walk_end {from = from} l h =
      record {
        forest = end;
        fit = fits_end;
        plain = end-plain G;
        free = end-free G cover mask;
        covers = sym (ap (λ (x : ℕ). slice from x w) (sym h) ∙ slice_empty from w);
        coded = refl;
        ends = omega arith;
        inside = l;
      }

  pub end-walk : {at from to next : ℕ} → from ≤ to → to ≤ length w → Walked G w e n cover mask [] at from to next → from ≡ to
  unfolding yield
  end-walk {from = from} {to} h l a = go a.forest a.fit a.covers
    where
      go : (t : Forest) → Fits G [] t → yield t ≡ slice from to w → from ≡ to
      go end fits_end c = slice-nil from to w h l c
      go (leaf _ _) x4 c = elim x4 [ ]
      go (Rattle.cfg.specs.Tree.node _ _ _) x6 c = elim x6 [ ]

  -- ---- a byte before a row

  module _ {t : Terminal} {places : List Symbol} {at from to next : ℕ} (known : to ≤ length w) where
    pub walk-leaf : from < to → fits t (get_or w from 0) ≡ true → Walked G w e n cover mask places at (from + 1) to next
        → Walked G w e n cover mask (terminal t ∷ places) at from to next
    unfolding yield code nodes
    walk-leaf h f a =
        let i : from + 1 ≡ suc from = omega arith in
        record {
          forest = leaf (get_or w from 0) a.forest;
          fit = fits_leaf f a.fit;
          plain = leaf-plain G (get_or w from 0) a.forest a.plain;
          free = leaf-free G (get_or w from 0) a.forest cover mask a.free;
          covers =
              ap (λ (l : List ℕ). get_or w from 0 ∷ l) (a.covers ∙ ap (λ (x : ℕ). slice x to w) i) ∙ sym (slice-cons from to w 0 h known);
          coded = a.coded;
          ends = a.ends;
          inside = a.inside;
        }

    pub leaf-walk : from ≤ to → Walked G w e n cover mask (terminal t ∷ places) at from to next
        → (from < to) × (fits t (get_or w from 0) ≡ true) × Walked G w e n cover mask places at (from + 1) to next
    unfolding yield code nodes
    leaf-walk rising a = go a.fit a.plain a.free a.covers a.coded a.ends
      where
        go : {forest : Forest} → Fits G (terminal t ∷ places) forest → ¬ Superfluous G forest → Free G cover mask forest
            → yield forest ≡ slice from to w
            → code forest ++ drop (2 * next) e ≡ drop (2 * at) e → next ≡ at + nodes forest
            → (from < to) × (fits t (get_or w from 0) ≡ true) × Walked G w e n cover mask places at (from + 1) to next
        go (fits_leaf {m = m} {rest = rest} f g) s r c d k =
            let x = slice-head from to w rising known m (yield rest) c in
            let i : suc from ≡ from + 1 = omega arith in (
              x.0,
              subst (λ (y : ℕ). fits t y ≡ true) x.1 f,
              record {
                forest = rest;
                fit = g;
                plain = after-plain G m rest s;
                free = after_free G m rest cover mask r;
                covers = x.2 ∙ ap (λ (y : ℕ). slice y to w) i;
                coded = d;
                ends = k;
                inside = a.inside;
              },
            )
