-- The bytes of one input, given by a test: trees over these are trees over the input's bytes, so tables that are right for the test are
-- right for the input. Assumes nothing.
use Prim.Native.Nat.{ℕ}
use mathlib.Core.Bool.{Bool, ◌&&◌, and-eq-true_iff}
use mathlib.Core.List.{List}
use native.Mathlib.Omega.{arith}
use lib.Dec.{eqb, ltb}
use lib.ListN.{length, get_or}
use borrow.Author.Tests.{lt-ltb, ltb-true, eq-eqb, eqb-true}
use Rattle.cfg.specs.Grammar.{Cfg}
use Rattle.cfg.specs.Tree.{Forest}
use Rattle.chart.specs.Cell.{fits_at}
use Rattle.theory_costs.specs.Span.{bytes_of, Tells, Reads, reads_end, reads_byte, TreeOver}
use Rattle.theory_costs.proofs.Span.{tells-input, least-same}
use Rattle.packed_fit.specs.Fit.{FitTold}
use Rattle.table_layout.specs.Exact.{PastLast, ChartTrue, ExactTables}
use Rattle.table_span.specs.Sofar.{Standing}
use Rattle.table_all.specs.Spans.{Tabulated}

-- ---- forests over bytes at fewer positions

module _ {bytes bytes' : ℕ → ℕ → Type 0} (to : (a m : ℕ) → bytes a m → bytes' a m) where
  reads_more : {b a : ℕ} {u : List ℕ} → Reads bytes b a u → Reads bytes' b a u
  reads_more (reads_end e) = reads_end e
  reads_more (reads_byte {a} {m} p r) = reads_byte (to a m p) (reads_more r)

  tree-more : {G : Cfg} {k a b : ℕ} (t : Forest) → TreeOver G bytes k a b t → TreeOver G bytes' k a b t
  tree-more t T = record { fitted = T.fitted; reads = reads_more T.reads }

-- ---- one input

module _ (w : List ℕ) where
  -- whether the byte at position a is m
  abbrev stands : ℕ → ℕ → Bool
  stands a m = ltb a (length w) && eqb m (get_or w a 0)

  from-test : (a m : ℕ) → Standing stands a m → bytes_of w a m
  from-test a m e =
      let (l, h) = (and-eq-true_iff (ltb a (length w)) (eqb m (get_or w a 0))).0 e in
      (ltb-true a (length w) l, eqb-true m (get_or w a 0) h)

  to-test : (a m : ℕ) → bytes_of w a m → Standing stands a m
  to-test a m (l, h) =
      (and-eq-true_iff (ltb a (length w)) (eqb m (get_or w a 0))).1 (lt-ltb a (length w) l, eq-eqb m (get_or w a 0) h)

  tells-test : Tells (fits_at w) (Standing stands)
  tells-test a t = (
    λ e. let (m, s, f) = (tells-input w a t).0 e in (m, to-test a m s, f),
    λ p. let (m, s, f) = p in (tells-input w a t).1 (m, from-test a m s, f),
  )

  pub tabulated-input : (p : List ℕ) (rules : ℕ) (fits chart : List ℕ) (n : ℕ) (tables : List ℕ) → Tabulated p rules fits chart n tables
      → PastLast p rules → FitTold (fits_at w) p fits n → ChartTrue p (bytes_of w) chart n → ExactTables (fits_at w) (bytes_of w) p n tables
  tabulated-input p rules fits chart n tables T past told cells =
      let E = T.exact (fits_at w) stands tells-test past told (λ i j a b k h t S. cells i j a b k h t (tree-more from-test t S)) in
      record {
        long = E.long;
        least = λ k i j a b. least-same (λ t S. (t, tree-more from-test t S, omega arith)) (λ t S. (t, tree-more to-test t S, omega arith))
            (E.least k i j a b);
        ready = E.ready;
      }
