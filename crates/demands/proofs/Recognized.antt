-- Opening and then taking any row of bytes: the state, the answer and the chart. Assumes nothing.
use Prim.Native.Nat.{ℕ, ◌+◌, ◌≤◌, ◌<◌}
use mathlib.Core.Bool.{true, false, not}
use mathlib.Core.List.{List, [], ◌∷◌, ◌++◌, append-nil}
use mathlib.Core.Logic.{◌↔◌, ◌⊎◌, dite}
use mathlib.Core.Path.{◌≡◌, refl, sym, ap, ◌∙◌}
use native.Mathlib.Decide.{dec_lt}
use native.Mathlib.Omega.{arith}
use lib.Dec.{eqb}
use lib.ListN.{length, take, drop, length-drop, take-append-drop}
use lib.Seq.{slice, append_snoc, take_all, length-take-le}
use borrow.Author.Tests.{le-ltb, eq-eqb}
use Rattle.sizes.specs.Sizes.{cells, max_input}
use Rattle.laws.proofs.Bools.{true-false, bool_false}
use Rattle.sets.specs.Set.{has}
use Rattle.cfg.specs.Tree.{Forest, Parse, HasTree}
use Rattle.chart.specs.Cell.{cell}
use Rattle.chart.specs.Column.{extended, extended_by, filled, complete}
use Rattle.chart.proofs.Filled.{length-snoc, filled-snoc}
use Rattle.chart.proofs.Truth.{filled-true, filled_zero, complete-tree, filled-length}
use Rattle.grammar.specs.declared.Grammar.{Grammar}
use Rattle.grammar.specs.Valid.{valid_grammar}
use Rattle.grammar.specs.View.{Dated, grammar_of}
use Rattle.grammar.proofs.Bounds.{valid-bounded}
use Rattle.results.specs.Answer.{refused, answered, check}
use Rattle.results.specs.Recognize.{hand_of, no_points, state_of, points_within, Recognition, grammar_check, state_check, chart_check}
use Rattle.results.specs.Recognize.{open_in, open_of, take_in, take_of, fed}
use Rattle.demands.specs.Recognized.{Recognized}
use Rattle.results.proofs.Decide.{decide-first}
use Rattle.results.proofs.Answers.{answered-inj}
use Rattle.results.proofs.Goes.{open-passed, take-passed}
use Rattle.results.proofs.State.{state-taken, none-past, state-let-through}

-- taking two rows one after the other
pub fed-append : (g : Grammar) (r : Recognition) (u v : List ℕ) → fed g r (u ++ v) ≡ fed g (fed g r u) v
unfolding fed
fed-append g r [] v = refl
fed-append g r (m ∷ u) v = fed-append g (take_of g r.state m r.chart) u v

-- the result after n bytes u have been taken, with these points and this chart
abbrev pub result : Dated → List ℕ → List ℕ → ℕ → List ℕ → Recognition
result g points u n c = record { answer = answered (complete (grammar_of g) n c); state = hand_of u points g.year; chart = c }

module _ (g : Dated) (found : List ℕ) where
  -- the result after the bytes u, of which there are at most 64, with these points
  abbrev pub after_with : List ℕ → List ℕ → Recognition
  after_with points u = result g points u (length u) (filled (grammar_of g) u found)

  -- the same with no point set
  abbrev pub after : List ℕ → Recognition
  after u = after_with no_points u

  -- the result after more than 64 bytes, where u is the first 64, with these points
  abbrev pub beyond_with : List ℕ → List ℕ → Recognition
  beyond_with points u = record { answer = refused 15; state = hand_of u points g.year; chart = filled (grammar_of g) u found }

  -- the same with no point set
  abbrev pub beyond : List ℕ → Recognition
  beyond u = beyond_with no_points u

  module _ (valid : valid_grammar g.grammar ≡ true) (room : cells ≤ length found) where
    pub open_after : open_of g found ≡ after []
    unfolding open_in filled extended_by
    open_after = open-passed g found valid room

    -- one more byte, whatever points are set
    pub take_after : (points u : List ℕ) (m : ℕ) → points_within (length u) points ≡ true → length u < max_input
        → take_of g.grammar (hand_of u points g.year) m (filled (grammar_of g) u found) ≡ after_with points (u ++ (m ∷ []))
    unfolding take_in hand_of
    take_after points u m s l =
        let h = hand_of u points g.year in
        let c = filled (grammar_of g) u found in
        let v = u ++ (m ∷ []) in
        let n : length u + 1 ≡ length v = omega (arith, length-snoc u m) in
        take-passed g.grammar h m c valid (state-let-through h (omega arith) s) l
        (omega (arith, filled-length (grammar_of g) u found room))
        ∙ ap (λ (x : List ℕ). result g points (x ++ (m ∷ [])) (length u + 1) (extended (grammar_of g) (x ++ (m ∷ [])) c))
        (state-taken u points g.year)
        ∙ ap (λ (i : ℕ). result g points v i (extended (grammar_of g) v c)) n
        ∙ ap (result g points v (length v)) (sym (filled-snoc (grammar_of g) u m found))

    -- a row of bytes, if there are at most 64 in all
    fed-after : (u v : List ℕ) → length u + length v ≤ max_input → fed g.grammar (after u) v ≡ after (u ++ v)
    unfolding fed
    fed-after u [] l = ap after (sym (append-nil u))
    fed-after u (m ∷ v) l =
        ap (λ (x : Recognition). fed g.grammar x v) (take_after no_points u m (none-past (length u)) (omega arith))
        ∙ fed-after (u ++ (m ∷ [])) v (omega (arith, length-snoc u m))
        ∙ ap after (append_snoc u m v)

    module _ (u : List ℕ) (l : length u ≡ max_input) where
      pub take_beyond : (points : List ℕ) (m : ℕ) → points_within (length u) points ≡ true
          → take_of g.grammar (hand_of u points g.year) m (filled (grammar_of g) u found) ≡ beyond_with points u
      unfolding take_of hand_of
      take_beyond points m s =
          let h = hand_of u points g.year in
          let c = filled (grammar_of g) u found in
          let r : cells ≤ length c = omega (arith, filled-length (grammar_of g) u found room) in
          decide-first _ _ (grammar_check g.grammar ∷ state_check h ∷ chart_check c ∷ []) (check (eqb h.count max_input) 15) []
          (ap not valid, (state-let-through h (omega arith) s, (le-ltb (length c) cells r, tt))) (eq-eqb (length u) max_input l)

      fed-beyond : (v : List ℕ) → fed g.grammar (beyond u) v ≡ beyond u
      unfolding fed
      fed-beyond [] = refl
      fed-beyond (m ∷ v) = ap (λ (x : Recognition). fed g.grammar x v) (take_beyond no_points m (none-past (length u))) ∙ fed-beyond v

      fed-after-beyond : (v : List ℕ) → 0 < length v → fed g.grammar (after u) v ≡ beyond u
      unfolding fed
      fed-after-beyond [] h = absurd (omega arith)
      fed-after-beyond (m ∷ v) h =
          ap (λ (x : Recognition). fed g.grammar x v) (take_beyond no_points m (none-past (length u))) ∙ fed-beyond v

    -- ---- from opening on

    pub fed-short : (ms : List ℕ) → length ms ≤ max_input → fed g.grammar (open_of g found) ms ≡ after ms
    fed-short ms l = ap (λ (x : Recognition). fed g.grammar x ms) open_after ∙ fed-after [] ms (omega arith)

    pub fed-long : (ms : List ℕ) → max_input < length ms → fed g.grammar (open_of g found) ms ≡ beyond (take max_input ms)
    fed-long ms l =
        let e : length (take max_input ms) ≡ max_input = length-take-le max_input ms (omega arith) in
        ap (fed g.grammar (open_of g found)) (sym (take-append-drop max_input ms))
        ∙ fed-append g.grammar (open_of g found) (take max_input ms) (drop max_input ms)
        ∙ ap (λ (x : Recognition). fed g.grammar x (drop max_input ms)) (fed-short (take max_input ms) (omega arith))
        ∙ fed-after-beyond (take max_input ms) e (drop max_input ms) (omega (arith, length-drop max_input ms))

    -- ---- what is said of these results

    module _ (v : List ℕ) (l : length v ≤ max_input) (r : Recognition) (c : r.chart ≡ filled (grammar_of g) v found) where
      cells_of : (i j k : ℕ) → i ≤ j → j ≤ length v
          → (has k (cell r.chart i j) ≡ true) ↔ ((t : Forest) × Parse (grammar_of g) k (slice i j v) t)
      cells_of i j k a b = rw c (filled-true (grammar_of g) (valid-bounded g valid) v found l room i j k a b)

      zero_of : (i j : ℕ) → i ≤ max_input → j ≤ max_input → (j < i) ⊎ (length v < j) → cell r.chart i j ≡ 0
      zero_of i j a b d = rw c (filled_zero (grammar_of g) v found l i j a b d)

    module _ (ms : List ℕ) (l : length ms ≤ max_input) where
      has-tree : (complete (grammar_of g) (length ms) (filled (grammar_of g) ms found) ≡ true) ↔ HasTree (grammar_of g) ms
      has-tree = complete-tree (grammar_of g) (valid-bounded g valid) ms found l room

      pub tree_of : (answered (complete (grammar_of g) (length ms) (filled (grammar_of g) ms found)) ≡ answered true)
          ↔ HasTree (grammar_of g) ms
      tree_of = (λ e. has-tree.0 (answered-inj e), λ t. ap answered (has-tree.1 t))

      pub no-tree-of : (answered (complete (grammar_of g) (length ms) (filled (grammar_of g) ms found)) ≡ answered false)
          ↔ (HasTree (grammar_of g) ms → ⊥)
      no-tree-of = (λ e t. true-false (has-tree.1 t) (answered-inj e), λ f. ap answered (bool_false _ (λ e. f (has-tree.0 e))))

    -- ---- the theorem

    recognized-short : (ms : List ℕ) → length ms ≤ max_input → (r : Recognition) → r ≡ after ms → Recognized g found ms r
    recognized-short ms l r e =
        let s : ms ≡ take max_input ms = sym (take_all max_input ms l) in
        let c : r.chart ≡ filled (grammar_of g) ms found = ap (λ (x : Recognition). x.chart) e in
        let a : r.answer ≡ answered (complete (grammar_of g) (length ms) (filled (grammar_of g) ms found)) =
        ap (λ (x : Recognition). x.answer) e in
        record {
          state = ap (λ (x : Recognition). x.state) e ∙ ap (λ (x : List ℕ). state_of x g.year) s;
          chart = c ∙ ap (λ (x : List ℕ). filled (grammar_of g) x found) s;
          tree = λ _. rw a (tree_of ms l);
          no_tree = λ _. rw a (no-tree-of ms l);
          full = λ h. absurd (omega arith);
          cells = rw (take_all max_input ms l) (cells_of ms l r c);
          zeros = rw (take_all max_input ms l) (zero_of ms l r c);
        }

    recognized-long : (ms : List ℕ) → max_input < length ms → (r : Recognition) → r ≡ beyond (take max_input ms)
        → Recognized g found ms r
    recognized-long ms l r e =
        let h : length (take max_input ms) ≤ max_input = omega (arith, length-take-le max_input ms (omega arith)) in
        let c : r.chart ≡ filled (grammar_of g) (take max_input ms) found = ap (λ (x : Recognition). x.chart) e in
        record {
          state = ap (λ (x : Recognition). x.state) e;
          chart = c;
          tree = λ h. absurd (omega arith);
          no_tree = λ h. absurd (omega arith);
          full = λ _. ap (λ (x : Recognition). x.answer) e;
          cells = cells_of (take max_input ms) h r c;
          zeros = zero_of (take max_input ms) h r c;
        }

    pub recognized : (ms : List ℕ) → Recognized g found ms (fed g.grammar (open_of g found) ms)
    recognized ms = dite (dec_lt max_input (length ms))
        (λ l. recognized-long ms l (fed g.grammar (open_of g found) ms) (fed-long ms l))
        (λ l. let h : length ms ≤ max_input = omega arith in recognized-short ms h (fed g.grammar (open_of g found) ms) (fed-short ms h))
