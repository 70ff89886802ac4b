-- The costs over one span that need no numbers of the whole span. Assumes nothing.
use Prim.Native.Nat.{ℕ, ◌+◌, ◌*◌, ◌≤◌, ◌<◌}
use mathlib.Core.Bool.{false}
use mathlib.Core.List.{List}
use mathlib.Core.Logic.{dite}
use mathlib.Core.Path.{◌≡◌, sym, subst}
use native.Mathlib.Decide.{ℕ_discrete}
use native.Mathlib.Omega.{arith}
use lib.ListN.{get_or}
use Rattle.sizes.specs.Sizes.{too_many, max_rules, side, cells}
use Rattle.cfg.specs.Grammar.{Symbol}
use Rattle.chart.specs.Cell.{Fit}
use Rattle.theory_costs.specs.Cut.{LeastCut, within}
use Rattle.theory_costs.specs.Lowest.{Lowest}
use Rattle.theory_costs.specs.Rule.{BareCost}
use Rattle.theory_costs.proofs.Cut.{leastcut-same, leastcut-places}
use Rattle.theory_costs.proofs.Within.{within-full, within-least, leastcut-later}
use Rattle.theory_costs.proofs.Rule.{rule-node}
use Rattle.packed.specs.Packed.{place_count, places_in}
use Rattle.packed.proofs.Laws.{count-le, places-start}
use Rattle.table_suffix.specs.Within.{tail_in, LaterStarts}
use Rattle.table_layout.specs.Layout.{alones_at, cost_in, full_in, bare_in, rows_size}
use Rattle.packed_fit.specs.Fit.{FitTold}
use Rattle.table_write.specs.Writes.{place_at, Nothing, BaresPut}
use Rattle.table_live.specs.Live.{Silent, live_in, Grown, ReachedOnly}
use Rattle.table_start.specs.Starts.{OtherStarts, StartsOpened}
use Rattle.table_start.proofs.Columns.{silent-kept}
use Rattle.table_span.specs.Sofar.{Standing, Sofar, OpenedSofar, LiveFrom}
use Rattle.table_span.specs.Spans.{SpanOpened}
use Rattle.table_write.proofs.Written.{cost-same}
use Rattle.table_span.proofs.Kept.{sofar-kept}

-- if the live starts are known after i, and i is marked, they are known from i on
pub live_more : {p : List ℕ} {rules i j : ℕ} {rows₀ live₀ rows live : List ℕ} → rules ≤ max_rules → j < side → OtherStarts i rows₀ rows
    → Grown live₀ live → ((r : ℕ) → r < rules → live_in live r i ≡ false → Silent p r i rows) → LiveFrom p rules (i + 1) j rows₀ live₀
    → LiveFrom p rules i j rows live
live_more {p} {i = i} {rows₀ = rows₀} {rows = rows} o l O G here L = record {
  told = λ r c x y z f.
      dite (ℕ_discrete c i) (λ e. rw e (here r x (rw e at f)))
      (λ (d : ¬ (c ≡ i)). silent-kept p r c rows₀ rows (λ q w. O r q c (omega arith) w (omega arith) d)
      (L.told r c x (omega arith) z (G r c f)));
}

module _ (p : List ℕ) (rules : ℕ) (fits nothing : List ℕ) (reach i j : ℕ) (tables₀ rows₀ live₀ tables rows live : List ℕ)
    (o : rules ≤ max_rules) (h : i < j) (l : j < side) (N : Nothing nothing)
    (A : StartsOpened p rules fits tables₀ nothing reach i j rows₀ live₀ rows live)
    (B : BaresPut rules i j rows tables₀ tables) where
  costs : (k a b : ℕ) → a < side → b < side → cost_in tables k a b ≡ cost_in tables₀ k a b
  costs k a b x y = cost-same tables₀ tables k a b (λ z. B.front (cells * k + side * a + b) (omega arith))

  ends : ReachedOnly tables₀ reach i j → ReachedOnly tables reach i j
  ends R k c x y f = let e = costs k i c (omega arith) (omega arith) in let m = R k c x y f in omega arith

  module _ (fit : Fit) (bytes : ℕ → ℕ → Type 0) (F : FitTold fit p fits j) (R : ReachedOnly tables₀ reach i j)
      (L : LiveFrom p rules (i + 1) j rows₀ live₀) (S : Sofar fit bytes p rules (i + 1) j tables₀ rows₀) where
    later : (r : ℕ) → r < rules → LaterStarts fit p r tables₀ nothing i i j rows₀ (rows_size * r)
    later r x q c y z w = leastcut-later (full_in nothing) i z (S.starts r q c x y (omega arith) w)

    column : (r q : ℕ) → r < rules → q ≤ place_count p r
        → LeastCut fit (within i j (λ _. too_many) (cost_in tables)) (tail_in p r q) i j (get_or rows (place_at r q i) 0)
    column r q x y =
        leastcut-same i j
        (λ k a b u v w. within-least (λ _. too_many) (cost_in tables₀) (cost_in tables) i j k a b u v w
        (λ s. sym (costs k a b (omega arith) (omega arith))))
        (leastcut-places (λ k a c m. within-full (full_in nothing) (λ _. too_many) (cost_in tables₀) i j k a c (N.none k))
        (A.exact fit F R r x (λ c u v f. L.told r c x (omega arith) v f) (later r x) q y))

    bare : (r : ℕ) → r < rules → Lowest (BareCost fit (cost_in tables) (places_in p r) i j) (bare_in tables i j r)
    bare r x =
        subst (λ (v : ℕ). Lowest (BareCost fit (cost_in tables) (places_in p r) i j) v) (sym (B.here r x))
        (rule-node
        (subst (λ (s : List Symbol). LeastCut fit (within i j (λ _. too_many) (cost_in tables)) s i j (get_or rows (place_at r 0 i) 0))
        (places-start p r) (column r 0 x (omega arith))))

    behind : Sofar fit bytes p rules (i + 1) j tables rows
    behind = sofar-kept l S
        (λ k a b x y d. costs k a b (omega arith) y)
        (λ r q x y. B.front (alones_at + 8 * r + q) (omega arith))
        (λ a b r x y d m. B.other a b r x y (omega arith) (λ e. let u = e.0 in let v = e.1 in omega arith))
        (λ r q c x y z w. let m = count-le p r in A.other r q c (omega arith) (omega arith) (omega arith) (λ e. omega arith))

    opened : OpenedSofar fit bytes p rules i j tables rows
    opened = record { sofar = behind; bare = bare; column = column }

  pub span-opened : SpanOpened p rules fits reach i j tables₀ rows₀ live₀ tables rows live
  span-opened = record {
    long = B.long;
    wide = A.long;
    size = A.size;
    told = live_more o l A.other A.grown A.told;
    ends = ends;
    exact = λ fit can. opened fit (Standing can);
  }
