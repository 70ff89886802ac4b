-- What learning gives from a state that has taken u, over the chart that is filled with u: the result of opening with the longer grammar
-- and taking u, or all as it was. Assumes nothing.
use Prim.Native.Nat.{ℕ, ◌≤◌}
use mathlib.Core.Bool.{true, false, not}
use mathlib.Core.List.{List, [], ◌++◌}
use mathlib.Core.Path.{◌≡◌, ap, ◌∙◌}
use native.Mathlib.Omega.{arith}
use lib.ListN.{length, replicate}
use borrow.Author.Tests.{le-ltb}
use Rattle.sizes.specs.Sizes.{cells, max_input}
use Rattle.cfg.specs.Grammar.{Cfg}
use Rattle.chart.specs.Cell.{fits_at}
use Rattle.chart.specs.Column.{written, opened, extended_by, filled, complete}
use Rattle.chart.proofs.Truth.{filled-length, filled-behind}
use Rattle.grammar.specs.declared.Grammar.{Grammar}
use Rattle.grammar.specs.Valid.{valid_grammar}
use Rattle.grammar.specs.View.{Dated, dated, grammar_of}
use Rattle.results.specs.Answer.{answered}
use Rattle.results.specs.Load.{Fault}
use Rattle.results.specs.Recognize.{State, hand_of, points_within, state_check}
use Rattle.results.specs.Learn.{Joining, faulty, longer, enlarged, Learning, learn_in, unlearnt, learn_of}
use Rattle.results.proofs.Decide.{decide-passed}
use Rattle.results.proofs.State.{state-taken, state-let-through}

-- filling anew forgets what an earlier filling left
pub refilled : (G G' : Cfg) (u w found : List ℕ) → length u ≤ max_input → filled G' w (filled G u found) ≡ filled G' w found
unfolding filled opened
refilled G G' u w found h =
    ap (λ (x : List ℕ). extended_by G' [] w (written G' (fits_at []) 0 (replicate cells 0 ++ x))) (filled-behind G u found h)

-- what learning comes to once its checks 8, 14 and 10 are passed
abbrev joined_to : Grammar → State → List ℕ → Joining → Learning
joined_to g h chart j = elim j [ faulty f ↦ unlearnt g h chart f | longer g' ↦ learn_in g' h chart ]

learn-passed : (g : Grammar) (h : State) (bytes chart : List ℕ) → valid_grammar g ≡ true → (state_check h).fails ≡ false
    → cells ≤ length chart → learn_of g h bytes chart ≡ joined_to g h chart (enlarged g bytes)
unfolding learn_of
learn-passed g h bytes chart v s r = decide-passed _ _ _ (ap not v, (s, (le-ltb (length chart) cells r, tt)))

-- the result of learning where g' is the longer grammar: that of opening with it and taking u, with these points
abbrev pub learnt_with : Dated → List ℕ → List ℕ → List ℕ → Learning
learnt_with g' found points u = record {
  answer = answered (complete (grammar_of g') (length u) (filled (grammar_of g') u found));
  offset = 0;
  grammar = g'.grammar;
  state = hand_of u points g'.year;
  chart = filled (grammar_of g') u found;
}

module _ (g : Dated) (found : List ℕ) (valid : valid_grammar g.grammar ≡ true) (room : cells ≤ length found) (u points : List ℕ)
    (short : length u ≤ max_input) (within : points_within (length u) points ≡ true) (bytes : List ℕ) where
  state : State
  state = hand_of u points g.year

  abbrev chart : List ℕ
  chart = filled (grammar_of g) u found

  passed : (j : Joining) → enlarged g.grammar bytes ≡ j
      → learn_of g.grammar state bytes chart ≡ joined_to g.grammar state chart j
  unfolding state hand_of
  passed j e =
      learn-passed g.grammar state bytes chart valid (state-let-through state short within)
      (omega (arith, filled-length (grammar_of g) u found room))
      ∙ ap (joined_to g.grammar state chart) e

  pub unlearnt-after : (f : Fault) → enlarged g.grammar bytes ≡ faulty f
      → learn_of g.grammar (hand_of u points g.year) bytes chart ≡ unlearnt g.grammar (hand_of u points g.year) chart f
  unfolding state
  unlearnt-after f e = passed (faulty f) e

  pub learn-after : (g' : Grammar) → enlarged g.grammar bytes ≡ longer g'
      → learn_of g.grammar (hand_of u points g.year) bytes chart ≡ learnt_with (dated g' g.year) found points u
  unfolding state hand_of learn_in
  learn-after g' e =
      let G' = grammar_of (dated g' g.year) in
      passed (longer g') e
      ∙ (λ i. record {
        answer = answered (complete G' (length u) (filled G' (state-taken u points g.year i) chart));
        offset = 0;
        grammar = g';
        state = hand_of (state-taken u points g.year i) points g.year;
        chart = filled G' (state-taken u points g.year i) chart;
      })
      ∙ (λ i. record {
        answer = answered (complete G' (length u) (refilled (grammar_of g) G' u u found short i));
        offset = 0;
        grammar = g';
        state = hand_of u points g.year;
        chart = refilled (grammar_of g) G' u u found short i;
      })
