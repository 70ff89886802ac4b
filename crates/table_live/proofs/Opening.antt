-- One rule from one start, as the code does it: its costs are written, or it is passed over. Assumes nothing.
use Prim.Native.Nat.{ℕ, ◌+◌, ◌*◌, ◌≤◌, ◌<◌}
use mathlib.Core.Bool.{Bool, true, false}
use mathlib.Core.List.{List}
use mathlib.Core.Path.{◌≡◌, refl}
use native.Mathlib.Omega.{arith}
use lib.ListN.{length, get_or}
use Rattle.sizes.specs.Sizes.{too_many, max_rules}
use Rattle.sets.specs.Set.{has}
use Rattle.fill_reach.specs.Reach.{CanBegin}
use Rattle.table_layout.specs.Layout.{cost_in, rows_size}
use Rattle.table_suffix.specs.Within.{EndsPassed}
use Rattle.table_suffix.specs.Rows.{StartPut}
use Rattle.table_write.specs.Writes.{place_at, Nothing}
use Rattle.table_live.specs.Live.{LiveTold, ReachedOnly, Marked, FirstEnd, NonePut, RuleRowsPut}
use Rattle.table_live.proofs.Passed.{passed_over}

module _ (p : List ℕ) (r : ℕ) (fits tables full : List ℕ) (i j : ℕ) (rows₀ live₀ : List ℕ) where
  -- an end after i and before the first in both sets costs too much, alone or with the places after it
  passed : {reach from : ℕ} → FirstEnd i reach (get_or live₀ r 0) from → ReachedOnly tables reach i j → LiveTold p r i j rows₀ live₀
      → EndsPassed p r tables i from j rows₀ (rows_size * r)
  passed {reach} E R L q z h k c x y w = go (has c reach) refl
    where
      go : (b : Bool) → has c reach ≡ b → too_many ≤ cost_in tables k i c + get_or rows₀ (place_at r q c) 0
      go true e = let n = L c x w (E.none c x y e) q z h in omega arith
      go false e = let n = R k c x w e in omega arith

  pub rule-put : {reach from : ℕ} {rows live : List ℕ} → FirstEnd i reach (get_or live₀ r 0) from
      → StartPut p r fits tables full i i from j (rows_size * r) rows₀ rows → Marked p r i rows live₀ live
      → RuleRowsPut p r fits tables full reach i j rows₀ live₀ rows live
  rule-put E S M = record {
    long = S.long;
    other = S.other;
    exact = λ fit F R L X. S.exact fit F (passed E R L) X;
    marked = M;
  }

  pub rule-passed : (reach : ℕ) {b : Bool} {rows : List ℕ} → i < j → length live₀ ≡ max_rules → Nothing full
      → CanBegin i j reach (get_or live₀ r 0) b → b ≡ false → NonePut p r i rows₀ rows
      → RuleRowsPut p r fits tables full reach i j rows₀ live₀ rows live₀
  rule-passed reach {rows = rows} l h N P t S = record {
    long = S.long;
    other = S.other;
    exact = λ fit F R L X s m. passed_over p r tables full reach i j rows₀ live₀ l fit P t N R L X s m (S.here s (omega arith));
    marked = record {
      size = h;
      grown = λ s c f. f;
      here = λ f q z m. let e : get_or rows (place_at r q i) 0 ≡ too_many = S.here q (omega arith) in omega arith;
    };
  }
