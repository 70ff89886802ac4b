-- The rows of all rules are written rule by rule for one start. Assumes nothing.
use Prim.Native.Nat.{ℕ, ◌+◌, ◌*◌, ◌≤◌, ◌<◌}
use mathlib.Core.List.{List}
use mathlib.Core.Bool.{false}
use mathlib.Core.Path.{◌≡◌, sym, subst, ◌∙◌}
use native.Mathlib.Omega.{arith}
use lib.ListN.{get_or}
use Rattle.table_layout.specs.Layout.{rows_size}
use Rattle.sizes.specs.Sizes.{max_rules, max_places, side}
use Rattle.laws.proofs.Lists.{below_step}
use Rattle.chart.specs.Cell.{Fit}
use Rattle.packed.proofs.Laws.{count-le}
use Rattle.table_suffix.specs.Within.{tail_in, InsideCost, LaterStarts}
use Rattle.table_suffix.specs.Rows.{StartPut}
use Rattle.table_write.specs.Writes.{place_at}
use Rattle.table_live.specs.Live.{Silent, live_in, LiveTold, OneRule, Grown, RuleRowsPut}
use Rattle.table_start.specs.Starts.{OtherStarts, StartRight, StartsPut, StartsOpened}

-- ---- what writing one rule from the start i leaves unchanged

module _ (p : List ℕ) (i m : ℕ) (rows rows' : List ℕ) (l : i < side) (O : OneRule p m i rows rows') where
  pub other-starts : OtherStarts i rows rows'
  other-starts r q c x y z d = let e : ¬ (c ≡ i) = d in O (place_at r q c) (λ s u v. e (omega arith))

  pub other-rules : (r q : ℕ) → ¬ (r ≡ m) → q ≤ max_places → get_or rows' (place_at r q i) 0 ≡ get_or rows (place_at r q i) 0
  other-rules r q d y = let b = count-le p m in O (place_at r q i) (λ s u v. d (omega arith))

  pub right_kept : (fit : Fit) (tables full : List ℕ) (j r : ℕ) → ¬ (r ≡ m) → StartRight fit p r tables full i j rows
      → StartRight fit p r tables full i j rows'
  right_kept fit tables full j r d R q y =
      let b = count-le p r in
      subst (λ (v : ℕ). InsideCost fit tables full i j (tail_in p r q) i v) (sym (other-rules r q d (omega arith))) (R q y)

-- a start stays silent if its numbers stay
pub silent-kept : (p : List ℕ) (r c : ℕ) (rows rows' : List ℕ)
    → ((q : ℕ) → q ≤ max_places → get_or rows' (place_at r q c) 0 ≡ get_or rows (place_at r q c) 0) → Silent p r c rows → Silent p r c rows'
silent-kept p r c rows rows' f S q z y = let b = count-le p r in let e = f q (omega arith) in let x = S q z y in omega arith

-- what is known of the later starts stays known
pub live-kept : (p : List ℕ) (r i j : ℕ) (rows₀ live₀ rows live : List ℕ) → r < max_rules → j < side → OtherStarts i rows₀ rows
    → Grown live₀ live → LiveTold p r i j rows₀ live₀ → LiveTold p r i j rows live
live-kept p r i j rows₀ live₀ rows live h l O G L c x y f =
    let d : ¬ (c ≡ i) = λ e. omega arith in
    silent-kept p r c rows₀ rows (λ q z. O r q c h z (omega arith) d) (L c x y (G r c f))

module _ (p fits tables full : List ℕ) (i j : ℕ) where
  -- the costs from later starts stay right
  pub later-kept : (fit : Fit) (r : ℕ) (rows₀ rows : List ℕ) → r < max_rules → j < side → OtherStarts i rows₀ rows
      → LaterStarts fit p r tables full i i j rows₀ (rows_size * r) → LaterStarts fit p r tables full i i j rows (rows_size * r)
  later-kept fit r rows₀ rows h l O L q c x y z =
      let b = count-le p r in
      let d : ¬ (c ≡ i) = λ e. omega arith in
      subst (λ (v : ℕ). InsideCost fit tables full i j (tail_in p r q) c v) (sym (O r q c h (omega arith) (omega arith) d)) (L q c x y z)

  -- ---- all rules

  module _ (m rules : ℕ) (rows₀ rows rows' : List ℕ) (b : i ≤ j) (l : j < side) (h : m < rules) (o : rules ≤ max_rules)
      (S : StartsPut p m fits tables full i j rows₀ rows) (P : StartPut p m fits tables full i i (i + 1) j (rows_size * m) rows rows') where
    pub starts-step : StartsPut p (m + 1) fits tables full i j rows₀ rows'
    starts-step = record {
      long = P.long ∙ S.long;
      other = λ r q c x y z d. other-starts p i m rows rows' (omega arith) P.other r q c x y z d ∙ S.other r q c x y z d;
      exact = λ fit F. below_step
          (λ (r : ℕ). LaterStarts fit p r tables full i i j rows₀ (rows_size * r) → StartRight fit p r tables full i j rows') m
          (λ r x L. right_kept p i m rows rows' (omega arith) P.other fit tables full j r (λ e. omega arith) (S.exact fit F r x L))
          (λ L. P.exact fit F (λ s x y z u v w. absurd (omega arith)) (later-kept fit m rows₀ rows (omega arith) l S.other L));
    }

  -- ---- those that are not passed over

  module _ (reach : ℕ) where
    module _ (m rules : ℕ) {rows₀ live₀ rows live rows' live' : List ℕ} (b : i < j) (l : j < side) (h : m < rules) (o : rules ≤ max_rules)
        (S : StartsOpened p m fits tables full reach i j rows₀ live₀ rows live)
        (P : RuleRowsPut p m fits tables full reach i j rows live rows' live') where
      pub opened-step : StartsOpened p (m + 1) fits tables full reach i j rows₀ live₀ rows' live'
      opened-step = record {
        long = P.long ∙ S.long;
        size = P.marked.size;
        other = λ r q c x y z d. other-starts p i m rows rows' (omega arith) P.other r q c x y z d ∙ S.other r q c x y z d;
        exact = λ fit F R. below_step
            (λ (r : ℕ). LiveTold p r i j rows₀ live₀ → LaterStarts fit p r tables full i i j rows₀ (rows_size * r)
            → StartRight fit p r tables full i j rows') m
            (λ r x L X.
            right_kept p i m rows rows' (omega arith) P.other fit tables full j r (λ e. omega arith) (S.exact fit F R r x L X))
            (λ L X. P.exact fit F R (live-kept p m i j rows₀ live₀ rows live (omega arith) l S.other S.grown L)
            (later-kept fit m rows₀ rows (omega arith) l S.other X));
        grown = λ r c f. S.grown r c (P.marked.grown r c f);
        told = below_step (λ (r : ℕ). live_in live' r i ≡ false → Silent p r i rows') m
            (λ r x f. silent-kept p r i rows rows' (λ q. other-rules p i m rows rows' (omega arith) P.other r q (λ e. omega arith))
            (S.told r x (P.marked.grown r i f)))
            P.marked.here;
      }

    pub opened-end : {m rules : ℕ} {rows₀ live₀ rows live : List ℕ} → m ≤ rules → rules ≤ m
        → StartsOpened p m fits tables full reach i j rows₀ live₀ rows live
        → StartsOpened p rules fits tables full reach i j rows₀ live₀ rows live
    opened-end {m} {rules} x y S = let e : m ≡ rules = omega arith in rw e at S
