-- The ends from one start, cell by cell, and from all starts. Assumes nothing.
use Prim.Native.Nat.{ℕ, ◌+◌, ◌*◌, ◌≤◌, ◌<◌}
use mathlib.Core.Bool.{false}
use mathlib.Core.List.{List}
use mathlib.Core.Path.{◌≡◌, sym, ◌∙◌}
use native.Mathlib.Omega.{arith}
use lib.ListN.{set, get_or, length-set}
use Rattle.sizes.specs.Sizes.{side}
use Rattle.laws.proofs.Bools.{true-false}
use Rattle.laws.proofs.Lists.{set_below, below_step}
use Rattle.sets.specs.Set.{has, insert}
use Rattle.sets.proofs.Laws.{has-insert-same, has-insert-other}
use Rattle.chart.specs.Cell.{cell}
use Rattle.fill_reach.specs.Reach.{ReachFrom, ReachesBefore, Reaches}

module _ (chart : List ℕ) (i : ℕ) where
  pub from_start : {m : ℕ} → m ≡ i + 1 → ReachFrom chart i m 0
  from_start e = record { empty = λ c h l f. absurd (omega arith) }

  module _ {m w : ℕ} (S : ReachFrom chart i m w) where
    -- an end with a nonterminal
    pub from-put : {u v : ℕ} → u ≡ insert m w → v ≡ u → ReachFrom chart i (m + 1) v
    from-put y z = rw (z, y) (record {
      empty = λ c h l f. below_step (λ (c : ℕ). i < c → has c (insert m w) ≡ false → cell chart i c ≡ 0) m
          (λ c l h f. S.empty c h l (sym (has-insert-other c m w (omega arith)) ∙ f))
          (λ h f. absurd (true-false (has-insert-same m w) f)) c l h f;
    })

    -- an end without one
    pub from-none : {v : ℕ} → get_or chart (side * i + m) 0 ≡ 0 → v ≡ w → ReachFrom chart i (m + 1) v
    from-none e y = rw y (record {
      empty = λ c h l f. below_step (λ (c : ℕ). i < c → has c w ≡ false → cell chart i c ≡ 0) m
          (λ c l h f. S.empty c h l f) (λ h f. e) c l h f;
    })

  pub from_end : {m n w : ℕ} → n ≤ m → ReachFrom chart i m w → ReachFrom chart i n w
  from_end h S = record { empty = λ c l k f. S.empty c l (omega arith) f }

module _ (chart : List ℕ) (n : ℕ) where
  pub reaches_step : {m : ℕ} (reach : List ℕ) {w : ℕ} → m < n → n < side → ReachesBefore chart n m reach → ReachFrom chart m n w
      → ReachesBefore chart n (m + 1) (set reach m w)
  reaches_step {m} reach {w} h l S P = record {
    long = length-set reach m w ∙ S.long;
    from = set_below (λ (i x : ℕ). ReachFrom chart i n x) 0 reach m w (omega (arith, S.long)) P S.from;
  }

  pub reaches_end : {m : ℕ} {reach : List ℕ} → m ≤ n → n ≤ m → ReachesBefore chart n m reach → Reaches chart n reach
  reaches_end {m} h l S = let e : m ≡ n = omega arith in rw e at S

-- what is known before n is known before j
pub reaches-less : {chart : List ℕ} {n j : ℕ} {reach : List ℕ} → j ≤ n → Reaches chart n reach → Reaches chart j reach
reaches-less h S = record {
  long = S.long;
  from = λ i l. record { empty = λ c x y f. (S.from i (omega arith)).empty c x (omega arith) f };
}
