-- The spans of one end, from the last start to the first, and all ends. Assumes nothing.
use Prim.Native.Nat.{ℕ, ◌+◌, ◌*◌, ◌-◌, ◌≤◌, ◌<◌}
use mathlib.Core.Bool.{false}
use mathlib.Core.List.{List}
use mathlib.Core.Path.{◌≡◌, ap, ◌∙◌}
use native.Mathlib.Omega.{arith}
use lib.ListN.{length, get_or}
use Rattle.sizes.specs.Sizes.{too_many, max_rules, side}
use Rattle.sets.specs.Set.{has}
use Rattle.sets.proofs.Laws.{has-empty}
use Rattle.chart.specs.Cell.{Fit, cell}
use Rattle.theory_costs.specs.Span.{Tells}
use Rattle.theory_costs.proofs.Lowest.{lowest-unique, lowest-none}
use Rattle.theory_costs.proofs.Plain.{least-unmasked}
use Rattle.packed.proofs.Laws.{count-le}
use Rattle.table_layout.specs.Layout.{tables_size, cost_in, full_in}
use Rattle.table_rule.specs.Rule.{AlonesFilled}
use Rattle.table_layout.specs.Exact.{PastLast, ChartTrue, ExactTables}
use Rattle.table_solve.specs.Solve.{Solved}
use Rattle.table_solve.proofs.Trees.{solved-full}
use Rattle.table_write.specs.Writes.{all_rows}
use Rattle.fill_reach.specs.Reach.{Reaches}
use Rattle.table_live.specs.Live.{ReachedOnly}
use Rattle.table_span.specs.Sofar.{Standing, SpanGiven, EmptyTrue, Sofar, LiveFrom}
use Rattle.table_span.specs.Spans.{SpanPut}
use Rattle.table_all.specs.Spans.{EndFrom, EndDone, EndsDone, EndsPut, Tabulated}
use Rattle.table_span.proofs.Kept.{ready_by}

module _ (p : List ℕ) (rules : ℕ) (fits chart : List ℕ) where
  -- ---- one end

  module _ (j : ℕ) where
    -- an end whose bit is not set costs too much: its cell is empty, so that no nonterminal has a tree there
    reached-by : {fit : Fit} {bytes : ℕ → ℕ → Type 0} {i : ℕ} {tables rows reach : List ℕ} → i < j → j < side
        → Sofar fit bytes p rules (i + 1) j tables rows → ChartTrue p bytes chart j → Reaches chart j reach
        → ReachedOnly tables (get_or reach i 0) i j
    reached-by {i = i} {tables} h l S C R k c x y f =
        let g : has k (cell chart i c) ≡ false = ap (has k) ((R.from i h).empty c x y f) ∙ has-empty k in
        let z : too_many ≡ cost_in tables k i c =
        lowest-unique (lowest-none (λ u t. absurd (C i c (omega arith) (omega arith) k g t.0 t.1)))
        (S.least k i c (omega arith) (omega arith) (omega arith))
        in
        omega arith

    pub end_back : (n : ℕ) {reach tables₀ rows₀ tables₁ rows₁ live₁ tables rows live : List ℕ} → 0 < n → n ≤ j → j < side
        → Reaches chart j reach → EndFrom p rules fits chart n j tables₀ rows₀ tables₁ rows₁ live₁
        → SpanPut p rules fits (get_or chart (side * (n - 1) + j) 0) (get_or reach (n - 1) 0) (n - 1) j tables₁ rows₁ live₁ tables rows live
        → EndFrom p rules fits chart (n - 1) j tables₀ rows₀ tables rows live
    end_back n {tables₁ = tables₁} {rows₁} {live₁} h l k R S P = record {
      long = P.long;
      wide = P.wide;
      size = P.size;
      told = P.told live;
      exact = λ fit can G C D.
          let A : Sofar fit (Standing can) p rules (n - 1 + 1) j tables₁ rows₁ = rw (← e) (S.exact fit can G C D) in
          P.exact fit can G (C (n - 1) j (omega arith) (omega arith)) (reached-by (omega arith) k A C R) live A;
    }
      where
        e : n ≡ n - 1 + 1
        e = omega arith

        live : LiveFrom p rules (n - 1 + 1) j rows₁ live₁
        live = rw (← e) S.told

  -- ---- all ends

  -- the spans that end at j are before the next end, whatever the rows hold
  next-end : {fit : Fit} {bytes : ℕ → ℕ → Type 0} {j : ℕ} {tables rows : List ℕ} → j < side → Sofar fit bytes p rules 0 j tables rows
      → Sofar fit bytes p rules (j + 1 + 1) (j + 1) tables rows
  next-end l S = record {
    empty = S.empty;
    none = S.none;
    beside = S.beside;
    least = λ k a b x y d. S.least k a b x y (omega arith);
    without = λ a b r x y d m. S.without a b r x y (omega arith) m;
    starts = λ r q c x y z w. absurd (omega arith);
  }

  -- what is given up to n is given up to j
  given-less : {fit : Fit} {bytes : ℕ → ℕ → Type 0} {n j : ℕ} → j ≤ n → SpanGiven fit bytes p rules fits n
      → SpanGiven fit bytes p rules fits j
  given-less l G = record { tells = G.tells; past = G.past; told = λ a r q h. G.told a r q (omega arith) }

  module _ (empty : List ℕ) (n : ℕ) where
    pub ends-start : (tables rows : List ℕ) → length tables ≡ tables_size → length rows ≡ all_rows
        → EndsDone p rules fits chart empty n 0 tables tables rows
    ends-start tables rows e f = record {
      long = e;
      wide = f;
      exact = λ fit can G E C A.
          record {
            empty = full_in empty;
            none = E;
            beside = A;
            least = λ k a b x y d. absurd (omega arith);
            without = λ a b r x y d m. absurd (omega arith);
            starts = λ r q c x y z w. absurd (omega arith);
          };
    }

    pub ends-step : {j : ℕ} {tables₀ tables₁ rows₁ tables rows : List ℕ} → j ≤ n → n < side
        → EndsDone p rules fits chart empty n j tables₀ tables₁ rows₁ → EndDone p rules fits chart empty j tables₁ rows₁ tables rows
        → EndsDone p rules fits chart empty n (j + 1) tables₀ tables rows
    ends-step {j} h l S P = record {
      long = P.long;
      wide = P.wide;
      exact = λ fit can G E C A.
          next-end (omega arith)
          (P.exact fit can (given-less h G) E (λ a b x y. C a b x (omega arith)) (S.exact fit can G E C A));
    }

    pub ends-end : {j : ℕ} {tables₀ tables rows : List ℕ} → n < j → j ≤ n + 1 → n < side
        → EndsDone p rules fits chart empty n j tables₀ tables rows → EndsPut p rules fits chart empty n tables₀ tables
    ends-end {j} {tables₀} {tables} {rows} h m l S = record {
      long = S.long;
      exact = λ fit can G E C A. done (S.exact fit can G E C A) G.past;
    }
      where
        done : {fit : Fit} {bytes : ℕ → ℕ → Type 0} → Sofar fit bytes p rules (j + 1) j tables rows → PastLast p rules
            → ExactTables fit bytes p n tables
        done R past = record {
          long = S.long;
          least = λ k a b x y. R.least k a b x (omega arith) (omega arith);
          ready = λ a b x y.
              ready_by R past a b (omega arith) (omega arith) (omega arith) (omega arith)
              (λ r z. R.without a b r x (omega arith) (omega arith) z);
        }

  -- ---- the tables

  module _ (empty : List ℕ) (n : ℕ) {tables₀ tables₁ tables : List ℕ} (X : Solved p rules (get_or chart 0 0) 0 tables₀ 0 0 empty)
      (A : AlonesFilled p empty max_rules tables₁) (P : EndsPut p rules fits chart empty n tables₁ tables) where
    empties : (fit : Fit) (bytes : ℕ → ℕ → Type 0) → Tells fit bytes → PastLast p rules → ChartTrue p bytes chart n
        → EmptyTrue p bytes empty
    empties fit bytes T past C k =
        least-unmasked
        ((solved-full X fit bytes (λ _ _ _. 0) T past (λ h. absurd (omega arith))
        (record { at = λ k a b x y z s. absurd (omega arith) }) (C 0 0 (omega arith) (omega arith))).at k)

    pub tabulated : Tabulated p rules fits chart n tables
    tabulated = record {
      long = P.long;
      exact = λ fit can T past F C.
          P.exact fit can (record { tells = T; past = past; told = F }) (empties fit (Standing can) T past C) C
          (λ r h q m. let c = count-le p r in A.here r q h (omega arith));
    }
