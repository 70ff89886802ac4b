-- Taking a byte over any chart and any state: the state, the one column that is written, and the answer. Assumes nothing.
use Prim.Native.Nat.{ℕ, ◌+◌, ◌≤◌, ◌<◌}
use mathlib.Core.Bool.{true}
use mathlib.Core.List.{List}
use mathlib.Core.Path.{◌≡◌, refl, sym, ap, subst, ◌∙◌}
use native.Mathlib.Omega.{arith}
use lib.ListN.{length, take}
use lib.Seq.{length-take-le}
use Rattle.sizes.specs.Sizes.{cells, max_input}
use Rattle.sets.specs.Set.{has}
use Rattle.chart.specs.Cell.{cell, fits_at}
use Rattle.chart.specs.Column.{written, extended, complete}
use Rattle.chart.proofs.Filled.{length-snoc}
use Rattle.chart.proofs.Least.{column-closed, column-least, closed_same}
use Rattle.chart.proofs.Written.{written-length, written-other, written-cell}
use Rattle.grammar.specs.declared.Grammar.{Grammar}
use Rattle.grammar.specs.Valid.{valid_grammar}
use Rattle.grammar.specs.View.{dated, grammar_of}
use Rattle.grammar.proofs.Bounds.{valid-bounded}
use Rattle.results.specs.Answer.{answered}
use Rattle.results.specs.Recognize.{State, hand_of, points_within, Recognition, take_in, take_of}
use Rattle.demands.specs.Taken.{input, Taken}
use Rattle.results.proofs.Goes.{take-passed}
use Rattle.results.proofs.State.{state-let-through}

module _ (g : Grammar) (h : State) (m : ℕ) (found : List ℕ) (valid : valid_grammar g ≡ true) (bytes : length h.bytes ≡ max_input)
    (within : points_within h.count h.points ≡ true) (small : h.count < max_input) (room : cells ≤ length found) where
  size : length (input h m) ≡ h.count + 1
  size = omega (arith, length-snoc (take h.count h.bytes) m, length-take-le h.count h.bytes (omega arith))

  -- the result, with the column written at n
  abbrev left_at : ℕ → Recognition
  left_at n =
      let c = written (grammar_of (dated g h.year)) (fits_at (input h m)) n found in
      record { answer = answered (has g.start (cell c 0 (h.count + 1))); state = hand_of (input h m) h.points h.year; chart = c }

  left : Recognition
  left = left_at (h.count + 1)

  gives : take_of g h m found ≡ left
  unfolding take_in extended complete left
  gives = take-passed g h m found valid (state-let-through h (omega arith) within) small room ∙ ap left_at size

  of_left : Taken (grammar_of (dated g h.year)) h m found (h.count + 1) left
  unfolding left
  of_left =
      let n = h.count + 1 in
      let fit = fits_at (input h m) in
      let inside = written-cell (grammar_of (dated g h.year)) fit n found (omega arith) room in
      record {
        state = refl;
        long = written-length (grammar_of (dated g h.year)) fit n found;
        others = written-other (grammar_of (dated g h.year)) fit n found;
        closed = closed_same (grammar_of (dated g h.year)) fit found n _ _ (λ i l. sym (inside i l))
            (column-closed (grammar_of (dated g h.year)) fit found n (valid-bounded (dated g h.year) valid));
        least = λ f c i k l e. column-least (grammar_of (dated g h.year)) fit found n f c i k l (ap (has k) (sym (inside i l)) ∙ e);
        complete = refl;
      }

  pub take-any : Taken (grammar_of (dated g h.year)) h m found (h.count + 1) (take_of g h m found)
  take-any = subst (Taken (grammar_of (dated g h.year)) h m found (h.count + 1)) (sym gives) of_left
