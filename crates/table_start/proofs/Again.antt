-- The rows are written again with the numbers of the whole span, for the rules that have a nonterminal of the cell in a place.
-- Assumes nothing.
use Prim.Native.Nat.{ℕ, ◌+◌, ◌*◌, ◌≤◌, ◌<◌}
use mathlib.Core.Bool.{Bool, true, false}
use mathlib.Core.List.{List}
use mathlib.Core.Path.{◌≡◌, refl, ◌∙◌}
use native.Mathlib.Omega.{arith}
use lib.ListN.{length}
use Rattle.table_layout.specs.Layout.{rows_size}
use Rattle.sizes.specs.Sizes.{max_rules, side}
use Rattle.laws.proofs.Lists.{below_step}
use Rattle.sets.specs.Set.{has}
use Rattle.sets.proofs.Laws.{has-empty}
use Rattle.chart.specs.Cell.{Fit}
use Rattle.packed.specs.Packed.{is_nonterminal_in, value_in}
use Rattle.packed.proofs.Laws.{count-le}
use Rattle.table_suffix.specs.Within.{LaterStarts}
use Rattle.table_write.specs.Writes.{all_rows}
use Rattle.table_live.specs.Live.{Silent, live_in, LiveTold, RuleRowsPut}
use Rattle.table_start.specs.Starts.{Untouched, StartRight, SuffixesPut}
use Rattle.table_start.proofs.Columns.{other-starts, other-rules, right_kept, silent-kept, live-kept, later-kept}

module _ (p fits tables full : List ℕ) (cell reach i j : ℕ) where
  unchanged : (m : ℕ) (rows live : List ℕ) → length rows ≡ all_rows → length live ≡ max_rules → ((r : ℕ) → r < m → Untouched p r cell)
      → SuffixesPut p m fits tables full cell reach i j rows live rows live
  unchanged m rows live e f none = record {
    long = e;
    size = f;
    other = λ r q c x y z d. refl;
    later = λ r q x y z. refl;
    exact = λ fit F R r h T L U. U (none r h);
    grown = λ r c g. g;
    told = λ r h g. g;
  }

  -- no rule has a nonterminal of an empty cell
  pub suffixes-none : (m : ℕ) (rows live : List ℕ) → length rows ≡ all_rows → length live ≡ max_rules → cell ≡ 0
      → SuffixesPut p m fits tables full cell reach i j rows live rows live
  suffixes-none m rows live e f z = unchanged m rows live e f (λ r h. record { none = λ q x t. rw z (has-empty (value_in p r q)) })

  module _ (m rules : ℕ) {rows₀ live₀ rows live : List ℕ} (b : i < j) (l : j < side) (h : m < rules) (o : rules ≤ max_rules)
      (S : SuffixesPut p m fits tables full cell reach i j rows₀ live₀ rows live) where
    -- what `exact` and `told` say of rule r, for these rows and live starts
    abbrev Right : Fit → List ℕ → ℕ → Type 0
    Right fit new r = LiveTold p r i j rows₀ live₀ → LaterStarts fit p r tables full i i j rows₀ (rows_size * r)
        → (Untouched p r cell → StartRight fit p r tables full i j rows₀) → StartRight fit p r tables full i j new

    abbrev Known : List ℕ → List ℕ → ℕ → Type 0
    Known new now r = (live_in live₀ r i ≡ false → Silent p r i rows₀) → live_in now r i ≡ false → Silent p r i new

    -- a rule that has no such nonterminal
    module _ {t : Bool} (N : t ≡ false → Untouched p m cell) (n : t ≡ false) where
      pub suffixes-skip : {new now : List ℕ} → new ≡ rows → now ≡ live
          → SuffixesPut p (m + 1) fits tables full cell reach i j rows₀ live₀ new now
      suffixes-skip e f = rw (e, f) (record {
        long = S.long;
        size = S.size;
        other = S.other;
        later = λ r q x y z. S.later r q (omega arith) y z;
        exact = λ fit F R. below_step (Right fit rows) m (S.exact fit F R)
            (λ T L U q y. rw (S.later m q (omega arith) (omega arith) (omega (arith, count-le p m))) (U (N n) q y));
        grown = S.grown;
        told = below_step (Known rows live) m S.told
            (λ g f. silent-kept p m i rows₀ rows (λ q z. S.later m q (omega arith) (omega arith) z) (g (S.grown m i f)));
      })

    -- a rule that has one
    module _ {rows' live' : List ℕ} (P : RuleRowsPut p m fits tables full reach i j rows live rows' live') where
      pub suffixes-take : {new now : List ℕ} → new ≡ rows' → now ≡ live'
          → SuffixesPut p (m + 1) fits tables full cell reach i j rows₀ live₀ new now
      suffixes-take e f = rw (e, f) (record {
        long = P.long ∙ S.long;
        size = P.marked.size;
        other = λ r q c x y z d. other-starts p i m rows rows' (omega arith) P.other r q c x y z d ∙ S.other r q c x y z d;
        later = λ r q x y z.
            other-rules p i m rows rows' (omega arith) P.other r q (λ e. omega arith) z ∙ S.later r q (omega arith) y z;
        exact = λ fit F R. below_step (Right fit rows') m
            (λ r x T L U.
            right_kept p i m rows rows' (omega arith) P.other fit tables full j r (λ e. omega arith) (S.exact fit F R r x T L U))
            (λ T L U. P.exact fit F R (live-kept p m i j rows₀ live₀ rows live (omega arith) l S.other S.grown T)
            (later-kept p fits tables full i j fit m rows₀ rows (omega arith) l S.other L));
        grown = λ r c f. S.grown r c (P.marked.grown r c f);
        told = below_step (Known rows' live') m
            (λ r x g f. silent-kept p r i rows rows' (λ q. other-rules p i m rows rows' (omega arith) P.other r q (λ e. omega arith))
            (S.told r x g (P.marked.grown r i f)))
            (λ g. P.marked.here);
      })

  pub suffixes-end : {m rules : ℕ} {rows₀ live₀ rows live : List ℕ} → m ≤ rules → rules ≤ m
      → SuffixesPut p m fits tables full cell reach i j rows₀ live₀ rows live
      → SuffixesPut p rules fits tables full cell reach i j rows₀ live₀ rows live
  suffixes-end {m} {rules} x y S = let e : m ≡ rules = omega arith in rw e at S

-- ---- whether a rule has such a nonterminal

-- no place before m has one
pub record Before (p : List ℕ) (r cell m : ℕ) : Type 0 where
  pub none : (q : ℕ) → q < m → is_nonterminal_in p r q ≡ true → has (value_in p r q) cell ≡ false

module _ (p : List ℕ) (r cell : ℕ) where
  module _ {q : ℕ} (S : Before p r cell q) where
    one_more : (is_nonterminal_in p r q ≡ true → has (value_in p r q) cell ≡ false) → Before p r cell (q + 1)
    one_more f = record {
      none = below_step (λ (s : ℕ). is_nonterminal_in p r s ≡ true → has (value_in p r s) cell ≡ false) q S.none f;
    }
