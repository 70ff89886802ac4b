-- The lines that are ahead: the line of a derivation and the lines after it, or the last line, by what the advance found. Assumes nothing.
use Prim.Native.Nat.{ℕ, suc, ◌+◌, ◌*◌, ◌≤◌, ◌<◌, min}
use mathlib.Core.List.{List, [], ◌∷◌, ◌++◌}
use mathlib.Core.Option.{some-injective}
use mathlib.Core.Path.{◌≡◌, refl, sym, ap, ◌∙◌}
use native.Mathlib.Numerals.{add-one}
use native.Mathlib.Omega.{arith}
use lib.IntN.{ℤ}
use lib.ListN.{length, get_or, take, drop, length-take, drop_of_length-le}
use lib.Seq.{drop-cons, get_or-take}
use Rattle.sizes.specs.Sizes.{max_rules, side, most}
use Rattle.cfg.specs.Derivation.{Rising}
use Rattle.cfg.specs.Listing.{L}
use Rattle.count_made.specs.Made.{Stands}
use Rattle.count_made.proofs.Loop.{last-element, next-element}
use Rattle.tree_first.specs.Descend.{InputGiven}
use Rattle.next_made.specs.Advanced.{Advanced, RootNext}
use Rattle.packed.specs.Packed.{cfg_in}
use Rattle.results.specs.Enumerate.{figure}
use Rattle.results.specs.Measure.{tenths_of}
use Rattle.results.proofs.Demand3.Figures.{figure-counted, figure-more}
use Rattle.results.proofs.Demand3.Listed.{L-rising}
use Rattle.results.proofs.Demand3.Rows.{at-member, after_next}
use Rattle.text.specs.Line.{line, readings_line}
use Rattle.text.specs.Text.{lines_from}
use Rattle.print_begin.specs.declared.Due.TheVariants.{Reading, Total, More}
use Rattle.print_begin.specs.Due.{lines_at}
use Rattle.print_step.specs.Stepped.{Followed}

-- ---- the lines from one derivation on

module _ (lengths : ℕ → ℤ) (l : List (List ℕ)) (i : ℕ) where
  pub lines_next : i < length l → i < most
      → lines_at lengths l i ≡ line (suc i) (get_or l i []) (tenths_of lengths (get_or l i [])) ∷ lines_at lengths l (suc i)
  unfolding lines_from
  lines_next h k =
      let within : i < length (take most l) = omega (arith, length-take most l) in
      let e : drop i (take most l) ≡ get_or l i [] ∷ drop (suc i) (take most l) =
      drop-cons (take most l) i [] within ∙ ap (λ (x : List ℕ). x ∷ drop (suc i) (take most l)) (get_or-take most l i [] k) in
      ap (λ (x : List (List ℕ)). lines_from lengths (suc i) x ++ (readings_line (figure (length l)) ∷ [])) e

  pub lines-last : min most (length l) ≤ i → lines_at lengths l i ≡ readings_line (figure (length l)) ∷ []
  unfolding lines_from
  lines-last h =
      ap (λ (x : List (List ℕ)). lines_from lengths (suc i) x ++ (readings_line (figure (length l)) ∷ []))
      (drop_of_length-le (take most l) {i = i} (omega (arith, length-take most l)))

-- ---- what comes after derivation i

-- how many nodes the next derivation has
next-size : (l : List (List ℕ)) → Rising l → (i : ℕ) → suc i < length l → (buf : List ℕ) (m : ℕ)
    → Advanced l (get_or l i []) buf m → 0 < m → length (get_or l (suc i) []) ≡ 2 * m
next-size l rising i h buf m A k =
    let F = A.next k in
    ap length (sym (some-injective _ _ (sym F.after ∙ after_next l rising i h))) ∙ F.size

module _ (p : List ℕ) (rules : ℕ) (fits chart tables : List ℕ) (s n i : ℕ) (buf₀ buf : List ℕ) (m : ℕ)
    (R : RootNext p rules fits chart tables s n buf₀ buf m) (low : i < most) where
  advanced : (w : List ℕ) → n ≡ length w → InputGiven p rules fits chart tables w → (S : Stands (L (cfg_in s p) w) i buf₀)
      → Advanced (L (cfg_in s p) w) (get_or (L (cfg_in s p) w) i []) buf m
  advanced w to given S =
      R.exact w to given (get_or (L (cfg_in s p) w) i []) (at-member (L (cfg_in s p) w) i S.there) S.here

  pub followed-last : m ≡ 0 → Followed p rules fits chart tables s n i buf₀ buf (Total (i + 1))
  followed-last h = record {
    long = R.kept.long;
    sized = omega arith;
    fewer = omega arith;
    ahead = λ lengths w to given S.
        let l = L (cfg_in s p) w in
        let e : length l ≡ i + 1 = last-element l (L-rising (cfg_in s p) w) i S.there buf m (advanced w to given S) h in
        lines-last lengths l (i + 1) (omega arith)
        ∙ ap (λ x. readings_line x ∷ []) (ap figure e ∙ figure-counted (i + 1) (omega arith));
  }

  module _ (h : m ≡ 0 → ⊥) where
    stands-next : (w : List ℕ) → n ≡ length w → InputGiven p rules fits chart tables w → Stands (L (cfg_in s p) w) i buf₀
        → Stands (L (cfg_in s p) w) (i + 1) buf
    stands-next w to given S =
        next-element (L (cfg_in s p) w) (L-rising (cfg_in s p) w) i S.there buf m (advanced w to given S) h

    pub followed-more : i + 1 ≡ most → Followed p rules fits chart tables s n i buf₀ buf More
    followed-more e = record {
      long = R.kept.long;
      sized = tt;
      fewer = omega arith;
      ahead = λ lengths w to given S.
          let l = L (cfg_in s p) w in
          let T = stands-next w to given S in
          lines-last lengths l (i + 1) (omega arith)
          ∙ ap (λ x. readings_line x ∷ []) (figure-more (length l) (omega (arith, T.there)));
    }

    pub followed-next : (i + 1 ≡ most → ⊥) → rules ≤ max_rules → n < side
        → Followed p rules fits chart tables s n i buf₀ buf (Reading s rules n (i + 1) m)
    followed-next e few short = record {
      long = R.kept.long;
      sized = (few, short, omega arith, R.kept.few);
      fewer = omega arith;
      ahead = λ lengths w to given S.
          let l = L (cfg_in s p) w in
          let T = stands-next w to given S in
          record {
            input = w;
            long = to;
            given = given;
            stands = T;
            size = ap (λ (x : ℕ). length (get_or l x [])) (add-one i)
                ∙ next-size l (L-rising (cfg_in s p) w) i (omega (arith, T.there)) buf m (advanced w to given S) (omega arith);
            early = omega arith;
            ahead = refl;
          };
    }
