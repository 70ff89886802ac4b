-- Setting a point and returning to it over any chart and any state: demand 1, and what is given. Assumes nothing.
use Prim.Native.Nat.{ℕ, ◌+◌, ◌-◌, ◌≤◌}
use mathlib.Core.List.{List}
use mathlib.Core.Path.{◌≡◌, refl}
use native.Mathlib.Omega.{arith}
use lib.ListN.{length, get_or, take, set}
use borrow.Author.Tests.{ltb-false}
use Rattle.sizes.specs.Sizes.{cells, max_input}
use Rattle.sets.specs.Set.{has}
use Rattle.chart.specs.Cell.{cell}
use Rattle.chart.specs.Column.{complete}
use Rattle.theory_clearing.proofs.Cells.{cleared-length, cleared-behind, cleared-zero, cleared-other}
use Rattle.grammar.specs.declared.Grammar.{Grammar}
use Rattle.results.specs.Answer.{refused, answered}
use Rattle.results.specs.Recognize.{State, hand_of, Recognition}
use Rattle.results.specs.Points.{set_point_in, return_in, set_point_of, return_to_of}
use Rattle.results.proofs.Answers.{answered-apart}
use Rattle.results.proofs.Decide.{decide-either}
use Rattle.results.proofs.State.{count_low, point-low}
use Rattle.demands.specs.Kept.{ChartKept}
use Rattle.demands.specs.Order.{NoRefusal}
use Rattle.demands.specs.Points.{SetDemand, Returned, ReturnDemand}
use Rattle.demands.proofs.Kept.{chart-same}
use Rattle.demands.proofs.Order.{set-order, return-order}

module _ (g : Grammar) (h : State) (k : ℕ) (chart : List ℕ) where
  -- ---- setting

  set-unwritten : (set_point_of g h k chart).chart ≡ chart
  unfolding set_point_of set_point_in
  set-unwritten = decide-either _ _ (λ (r : Recognition). r.chart ≡ chart) _ (λ n. refl) (λ p. refl)

  set-untouched : (n : ℕ) → (set_point_of g h k chart).answer ≡ refused n → (set_point_of g h k chart).state ≡ h
  unfolding set_point_of set_point_in
  set-untouched n =
      decide-either _ _ (λ (r : Recognition). r.answer ≡ refused n → r.state ≡ h) _ (λ a e. refl) (λ p e. absurd (answered-apart e))

  set-state : NoRefusal (set_point_of g h k chart).answer
      → (set_point_of g h k chart).state ≡ hand_of (take h.count h.bytes) (set h.points k (h.count + 1)) h.year
  unfolding set_point_of set_point_in
  set-state =
      decide-either _ _ (λ (r : Recognition). NoRefusal r.answer
      → r.state ≡ hand_of (take h.count h.bytes) (set h.points k (h.count + 1)) h.year) _
      (λ n f. absurd (f n refl)) (λ p f. refl)

  set-complete : NoRefusal (set_point_of g h k chart).answer
      → (set_point_of g h k chart).answer ≡ answered (has g.start (cell chart 0 h.count))
  unfolding set_point_of set_point_in complete
  set-complete =
      decide-either _ _ (λ (r : Recognition). NoRefusal r.answer → r.answer ≡ answered (has g.start (cell chart 0 h.count))) _
      (λ n f. absurd (f n refl)) (λ p f. refl)

  pub set-demand : SetDemand g h k chart (set_point_of g h k chart)
  set-demand = record {
    unwritten = set-unwritten;
    order = set-order g h k chart;
    untouched = set-untouched;
    state = set-state;
    complete = set-complete;
  }

  -- ---- returning

  -- the count to return to
  abbrev n : ℕ
  n = get_or h.points k 0 - 1

  return_kept : ChartKept chart (return_to_of g h k chart).chart
  unfolding return_to_of return_in
  return_kept =
      decide-either _ _ (λ (r : Recognition). ChartKept chart r.chart) _ (λ a. chart-same chart) (λ p.
      let (valid, (state, rest)) = p in
      record {
        same_length = cleared-length n chart;
        behind = cleared-behind n chart (omega (arith, count_low h state, point-low h state k));
      })

  return-untouched : (a : ℕ) → (return_to_of g h k chart).answer ≡ refused a
      → ((return_to_of g h k chart).chart ≡ chart) × ((return_to_of g h k chart).state ≡ h)
  unfolding return_to_of return_in
  return-untouched a =
      decide-either _ _ (λ (r : Recognition). r.answer ≡ refused a → (r.chart ≡ chart) × (r.state ≡ h)) _
      (λ b e. (refl, refl)) (λ p e. absurd (answered-apart e))

  return-returned : NoRefusal (return_to_of g h k chart).answer → Returned g h n chart (return_to_of g h k chart)
  unfolding return_to_of return_in complete
  return-returned =
      decide-either _ _ (λ (r : Recognition). NoRefusal r.answer → Returned g h n chart r) _ (λ a f. absurd (f a refl)) (λ p f.
      let (valid, (state, (room, u))) = p in
      let long : cells ≤ length chart = ltb-false (length chart) cells room in
      let low : n ≤ max_input = omega (arith, count_low h state, point-low h state k) in
      record { state = refl; zeros = cleared-zero n chart long; others = cleared-other n chart low; complete = refl })

  pub return-demand : ReturnDemand g h k chart (return_to_of g h k chart)
  return-demand = record {
    kept = return_kept;
    order = return-order g h k chart;
    untouched = return-untouched;
    returned = return-returned;
  }
