-- Counting by advances: the number of the element in the buffer, and the answer when none is left or 4,096 are passed.
-- Assumes nothing.
use Prim.Native.Nat.{ℕ, suc, ◌+◌, ◌≤◌, ◌<◌}
use mathlib.Core.List.{List, []}
use mathlib.Core.Logic.{dite}
use mathlib.Core.Option.{some-injective, none-ne-some}
use mathlib.Core.Path.{◌≡◌, refl, sym, ap, subst, ◌∙◌}
use native.Mathlib.Decide.{dec_lt}
use native.Mathlib.Omega.{arith}
use lib.ListN.{length, get_or}
use Rattle.sizes.specs.Sizes.{most}
use Rattle.cfg.specs.Derivation.{Rising}
use Rattle.cfg.specs.Listing.{L}
use Rattle.tree_first.specs.Descend.{InputGiven}
use Rattle.packed.specs.Packed.{cfg_in}
use Rattle.results.specs.Answer.{answered, counted, more}
use Rattle.results.specs.Enumerate.{figure}
use Rattle.results.proofs.Demand3.Figures.{figure-counted, figure-more}
use Rattle.results.proofs.Demand3.Listed.{L-rising}
use Rattle.results.proofs.Demand3.Rows.{at-member, after_next, after_last}
use Rattle.next_made.specs.Advanced.{StartsWith, Advanced, RootNext}
use Rattle.count_made.specs.Made.{Stands, CountedOn}

-- ---- one advance

module _ (l : List (List ℕ)) (rising : Rising l) (i : ℕ) (there : i < length l) (buf : List ℕ) (m : ℕ)
    (A : Advanced l (get_or l i []) buf m) where
  -- if no node is written, element i is the last one
  pub last-element : m ≡ 0 → length l ≡ i + 1
  last-element h = dite (dec_lt (suc i) (length l))
      (λ k. absurd (none-ne-some _ (sym (A.none_left h) ∙ after_next l rising i k)))
      (λ k. omega arith)

  -- else the buffer holds the element after it
  pub next-element : (m ≡ 0 → ⊥) → Stands l (i + 1) buf
  next-element h =
      let F = A.next (omega arith) in
      dite (dec_lt (suc i) (length l))
      (λ k. let e : suc i ≡ i + 1 = omega arith in
      let is = some-injective _ _ (sym F.after ∙ after_next l rising i k) in record {
        there = omega arith;
        here = subst (λ (x : ℕ). StartsWith buf (get_or l x [])) e (subst (StartsWith buf) is F.here);
      })
      (λ k. let all : suc i ≡ length l = omega arith in absurd (none-ne-some _ (sym (after_last l rising i all) ∙ F.after)))

-- ---- the answer

said-exactly : (l i : ℕ) → l ≡ i + 1 → i < most → answered (counted (i + 1)) ≡ answered (figure l)
said-exactly l i e h = rw e (sym (ap answered (figure-counted (i + 1) (omega arith))))

said_more : (l : ℕ) → most < l → answered more ≡ answered (figure l)
said_more l h = sym (ap answered (figure-more l (omega arith)))

-- ---- the loop

-- the buffer holds element i if it held element 0
pub record CountedTo (p : List ℕ) (rules : ℕ) (fits chart tables : List ℕ) (s n : ℕ) (buf₀ buf : List ℕ) (i : ℕ) : Type 0 where
  pub long : length buf ≡ length buf₀
  pub exact : (w : List ℕ) → n ≡ length w → InputGiven p rules fits chart tables w → Stands (L (cfg_in s p) w) 0 buf₀
      → Stands (L (cfg_in s p) w) i buf

module _ (p : List ℕ) (rules : ℕ) (fits chart tables : List ℕ) (s n : ℕ) (buf₀ : List ℕ) where
  pub counted_start : CountedTo p rules fits chart tables s n buf₀ buf₀ 0
  counted_start = record { long = refl; exact = λ w to given S. S }

  pub counted-all : (buf : List ℕ) (i : ℕ) → CountedTo p rules fits chart tables s n buf₀ buf i → most ≤ i
      → CountedOn p rules fits chart tables s n buf₀ (answered more)
  counted-all buf i C h = record {
    exact = λ w to given S. said_more (length (L (cfg_in s p) w)) (omega (arith, (C.exact w to given S).there));
  }

  module _ (buf buf' : List ℕ) (i m : ℕ) (C : CountedTo p rules fits chart tables s n buf₀ buf i)
      (R : RootNext p rules fits chart tables s n buf buf' m) where
    advance-from : (w : List ℕ) → n ≡ length w → InputGiven p rules fits chart tables w → (S : Stands (L (cfg_in s p) w) i buf)
        → Advanced (L (cfg_in s p) w) (get_or (L (cfg_in s p) w) i []) buf' m
    advance-from w to given S =
        R.exact w to given (get_or (L (cfg_in s p) w) i []) (at-member (L (cfg_in s p) w) i S.there) S.here

    pub counted_step : (m ≡ 0 → ⊥) → CountedTo p rules fits chart tables s n buf₀ buf' (i + 1)
    counted_step h = record {
      long = R.kept.long ∙ C.long;
      exact = λ w to given S.
          let T = C.exact w to given S in
          next-element (L (cfg_in s p) w) (L-rising (cfg_in s p) w) i T.there buf' m (advance-from w to given T) h;
    }

    pub counted-last : m ≡ 0 → i < most → CountedOn p rules fits chart tables s n buf₀ (answered (counted (i + 1)))
    counted-last h k = record {
      exact = λ w to given S.
          let T = C.exact w to given S in
          said-exactly (length (L (cfg_in s p) w)) i
          (last-element (L (cfg_in s p) w) (L-rising (cfg_in s p) w) i T.there buf' m (advance-from w to given T) h) k;
    }
