-- A pass over the rules, and passes until one changes nothing. Assumes nothing.
use Prim.Native.Nat.{ℕ, ◌+◌, ◌≤◌, ◌<◌}
use mathlib.Core.Bool.{Bool, true, false, not, true≢false, not-not}
use mathlib.Core.List.{List}
use mathlib.Core.Path.{◌≡◌, refl, sym, ap, subst, ◌∙◌}
use native.Mathlib.Omega.{arith}
use lib.ListN.{replicate, length-replicate}
use Rattle.sizes.specs.Sizes.{too_many}
use Rattle.laws.proofs.Lists.{below_step}
use Rattle.sets.specs.Set.{has}
use Rattle.sets.proofs.Laws.{has-empty}
use Rattle.packed.specs.Packed.{left_in}
use Rattle.table_layout.proofs.Entries.{full-many}
use Rattle.table_solve.specs.Solve.{total, Numbers, AllReached, Settled, Improved, PassSolved, Solved}

-- ---- one pass

module _ (p : List ℕ) (cell mask : ℕ) (tables : List ℕ) (i j : ℕ) (full₀ : List ℕ) where
  pub passed_start : Numbers full₀ → PassSolved p 0 cell mask tables i j full₀ full₀ false
  passed_start N = record {
    numbers = N;
    reached = λ A. A;
    less = λ x. absurd (true≢false (sym x));
    same = λ _. refl;
    settled = λ _ r h. absurd (omega arith);
  }

  module _ (full full' : List ℕ) {m : ℕ} {changed b : Bool} (S : PassSolved p m cell mask tables i j full₀ full changed)
      (I : Improved p m cell mask tables i j full full' b) where
    -- the sum before rule m is at most the sum at the start
    fallen : (c : Bool) → changed ≡ c → total full ≤ total full₀
    fallen true e = let h = S.less e in omega arith
    fallen false e = omega (arith, ap total (S.same e))

    pub passed-changed : {x : Bool} → b ≡ true → x ≡ true → PassSolved p (m + 1) cell mask tables i j full₀ full' x
    passed-changed e f = rw f (record {
      numbers = I.numbers;
      reached = λ A. I.reached (S.reached A);
      less = λ _. let h = I.less e in omega (arith, fallen changed refl);
      same = λ x. absurd (true≢false x);
      settled = λ x. absurd (true≢false x);
    })

    pub passed-kept : {x : Bool} → b ≡ false → x ≡ changed → PassSolved p (m + 1) cell mask tables i j full₀ full' x
    passed-kept e f = rw f (record {
      numbers = I.numbers;
      reached = λ A. I.reached (S.reached A);
      less = λ x. let h = S.less x in omega (arith, ap total (I.same e));
      same = λ x. I.same e ∙ S.same x;
      settled = λ x. below_step (λ (r : ℕ). Settled p r cell mask tables i j full') m
          (λ r h. subst (Settled p r cell mask tables i j) (sym (I.same e)) (S.settled x r h)) (I.settled e);
    })

-- ---- until nothing changes

pub numbers-none : Numbers (replicate 32 too_many)
numbers-none = record { long = length-replicate 32 too_many; capped = λ k. omega (arith, full-many k) }

module _ (p : List ℕ) (mask : ℕ) (tables : List ℕ) (i j : ℕ) where
  pub reached-none : AllReached p mask tables i j (replicate 32 too_many)
  reached-none = record { at = λ fit least R k h. absurd (omega (arith, full-many k)) }

  -- if the cell is empty, no number is wanted
  pub solved-nothing : {rules cell : ℕ} → cell ≡ 0 → Solved p rules cell mask tables i j (replicate 32 too_many)
  solved-nothing e = record {
    numbers = numbers-none;
    reached = reached-none;
    settled = λ r _ fit least R l h. absurd (true≢false (sym h ∙ ap (has (left_in p r)) e ∙ has-empty (left_in p r)));
  }

  module _ {rules cell : ℕ} (full full' : List ℕ) {b : Bool} (S : PassSolved p rules cell mask tables i j full full' b) where
    pub reached-less : not b ≡ false → total full' < total full
    reached-less e = S.less (sym (not-not b) ∙ ap not e)

    module _ (A : AllReached p mask tables i j full) where
      pub reached-step : AllReached p mask tables i j full'
      reached-step = S.reached A

      pub solved-last : not b ≡ true → Solved p rules cell mask tables i j full'
      solved-last e = record { numbers = S.numbers; reached = reached-step; settled = S.settled (sym (not-not b) ∙ ap not e) }
