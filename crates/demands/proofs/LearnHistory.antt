-- A list of operations from an opening, learning too, gives what the plain machine says, and leaves what opening with the grammar that
-- remains and taking what remains leaves. Assumes nothing.
use Prim.Native.Nat.{ℕ, ◌≤◌, ◌<◌}
use mathlib.Core.Bool.{true, false}
use mathlib.Core.List.{List, [], ◌∷◌, map}
use mathlib.Core.Logic.{dite}
use mathlib.Core.Option.{Option, none, some, none-ne-some}
use mathlib.Core.Path.{◌≡◌, refl, sym, ap, ◌∙◌, subst}
use native.Mathlib.Decide.{dec_lt}
use native.Mathlib.Omega.{arith}
use lib.ListN.{length, get_or, take, get_or-map, get_or-eq_default}
use Rattle.sizes.specs.Sizes.{cells, max_input, max_points}
use Rattle.chart.specs.Column.{filled, complete}
use Rattle.chart.proofs.Truth.{filled-length}
use Rattle.theory_points.specs.Machine.{Op, take_byte, set_point, return_to, learn, Remaining, begun, Effect, refused_by, remains}
use Rattle.theory_points.specs.Machine.{moved, remainder, remains_after}
use Rattle.theory_points.specs.Operations.{Held, held_after, Did, did_by, did_learn, did, ran}
use Rattle.theory_points.proofs.Points.{within-at}
use Rattle.theory_points.proofs.Moves.{take-goes, take-full, set-goes, set-over, return-goes, return-unset, learn-goes, learn-faulty}
use Rattle.theory_points.proofs.Sound.{Sound, begun-sound, move-sound, after-sound}
use Rattle.grammar.specs.declared.Grammar.{Grammar}
use Rattle.grammar.specs.Valid.{valid_grammar}
use Rattle.grammar.specs.View.{Dated, dated, grammar_of}
use Rattle.results.specs.Answer.{refused, answered}
use Rattle.results.specs.Recognize.{State, hand_of, no_points, points_within, state_check, Recognition, open_of, fed}
use Rattle.results.specs.Learn.{Joining, faulty, longer, enlarged}
use Rattle.results.proofs.Goes.{set-no-name, return-no-point}
use Rattle.results.proofs.State.{state-let-through}
use Rattle.demands.specs.PointsHistory.{Replied, AllReplied, point_number, LearnHistory}
use Rattle.demands.proofs.Recognized.{after_with, take_after, take_beyond, tree_of, no-tree-of, open_after, fed-short}
use Rattle.demands.proofs.PointsHeld.{within-numbers, set-numbers, kept-numbers, set_after, return-after}
use Rattle.demands.proofs.LearnHeld.{unlearnt-after, learn-after}

module _ (found : List ℕ) (room : cells ≤ length found) where
  -- the grammar that remains, in the year that remains
  abbrev now : Remaining → Dated
  now r = dated r.grammar r.year

  -- the chart of opening with this grammar and taking these bytes
  abbrev chart_of : Remaining → List ℕ
  chart_of r = filled (grammar_of (now r)) r.bytes found

  -- what is held where this remains
  abbrev holds : Remaining → Held
  holds r = record { grammar = r.grammar; state = hand_of r.bytes (map point_number r.points) r.year; chart = chart_of r }

  -- one operation replies what the machine says, and leaves what the machine has then
  record Step (op : Op) (r : Remaining) : Type 0 where
    pub replied : Replied (moved op r) (did op (holds r)).reply
    pub held : (did op (holds r)).held ≡ holds (remainder (moved op r) r)

  module _ (y : ℕ) (r : Remaining) (S : Sound y r) (op : Op) where
    -- what is held where the machine comes to x
    leaves : (d : Held) (x : Effect) → moved op r ≡ x → d ≡ holds (remainder x r) → d ≡ holds (remainder (moved op r) r)
    leaves d x m e = e ∙ sym (ap (λ (z : Effect). holds (remainder z r)) m)

    -- it is refused: all is as it was
    refused-step : (n o : ℕ) → moved op r ≡ refused_by n o
        → did op (holds r) ≡ record { reply = record { answer = refused n; offset = o }; held = holds r } → Step op r
    unfolding remainder
    refused-step n o m d = record {
      replied = rw (m, d) (refl, refl);
      held = leaves _ (refused_by n o) m (ap (λ (x : Did). x.held) d);
    }

    -- what an operation gives after which s remains: the result of opening and taking the bytes that remain
    abbrev gives : Remaining → Did
    gives s = record {
      reply = record { answer = answered (complete (grammar_of (now s)) (length s.bytes) (chart_of s)); offset = 0 };
      held = holds s;
    }

    goes_step : (s : Remaining) → moved op r ≡ remains s → did op (holds r) ≡ gives s → Step op r
    unfolding remainder
    goes_step s m d =
        let S' : Sound y s = subst (λ (x : Effect). Sound y (remainder x r)) m (move-sound y r S op) in
        record {
          replied =
              rw (m, d) (
                tree_of (now s) found S'.valid room s.bytes S'.short,
                no-tree-of (now s) found S'.valid room s.bytes S'.short,
                refl,
              );
          held = leaves _ (remains s) m (ap (λ (x : Did). x.held) d);
        }

  module _ (y : ℕ) (r : Remaining) (S : Sound y r) where
    abbrev u : List ℕ
    u = r.bytes

    abbrev points : List ℕ
    points = map point_number r.points

    within : points_within (length u) points ≡ true
    within = within-numbers (length u) r.points S.within

    state : State
    state = hand_of u points r.year

    passed : (state_check state).fails ≡ false
    unfolding state hand_of
    passed = state-let-through state S.short within

    long : cells ≤ length (chart_of r)
    long = omega (arith, filled-length (grammar_of (now r)) u found room)

    -- a point of the machine, as the state has it
    number_at : (k : ℕ) (o : Option ℕ) → get_or r.points k none ≡ o → get_or points k 0 ≡ point_number o
    number_at k o e = get_or-map point_number r.points k none ∙ ap point_number e

    take_step : (m : ℕ) → Step (take_byte m) r
    unfolding did
    take_step m = dite (dec_lt (length u) max_input)
        (λ l. goes_step y r S (take_byte m) _ (take-goes r m l)
        (ap (did_by r.grammar) (take_after (now r) found S.valid room points u m within l)))
        (λ l. let e : length u ≡ max_input = omega (arith, S.short) in
        refused-step y r S (take_byte m) 15 0 (take-full r m e)
        (ap (did_by r.grammar) (take_beyond (now r) found S.valid room u e points m within)))

    set-step : (k : ℕ) → Step (set_point k) r
    unfolding did state
    set-step k = dite (dec_lt k max_points)
        (λ l. goes_step y r S (set_point k) _ (set-goes r k l)
        (ap (did_by r.grammar) (set_after (now r) found S.valid room u points S.short within k l
        ∙ ap (λ (x : List ℕ). after_with (now r) found x u) (set-numbers r.points k (length u)))))
        (λ l. refused-step y r S (set_point k) 19 0 (set-over r k (omega arith))
        (ap (did_by r.grammar) (set-no-name r.grammar state k (chart_of r) S.valid passed long (omega arith))))

    -- a point that is set has a name
    named : (k p : ℕ) → get_or r.points k none ≡ some p → k < max_points
    named k p e = dite (dec_lt k max_points) (λ l. l)
        (λ l. absurd (none-ne-some p (sym (get_or-eq_default r.points none {n = k} (omega (arith, S.eight))) ∙ e)))

    return-step : (k : ℕ) (o : Option ℕ) → get_or r.points k none ≡ o → Step (return_to k) r
    unfolding did state hand_of
    return-step k none e =
        refused-step y r S (return_to k) 19 0 (return-unset r k e)
        (ap (did_by r.grammar) (return-no-point r.grammar state k (chart_of r) S.valid passed long (number_at k none e)))
    return-step k (some p) e =
        goes_step y r S (return_to k) _ (return-goes r k p e)
        (ap (did_by r.grammar) (return-after (now r) found S.valid room u points S.short within k p (named k p e)
        (number_at k (some p) e) (within-at (length u) p k r.points S.within e)
        ∙ ap (λ (x : List ℕ). after_with (now r) found x (take p u)) (kept-numbers p r.points)))

    learn-step : (bytes : List ℕ) (j : Joining) → enlarged r.grammar bytes ≡ j → Step (learn bytes) r
    unfolding did
    learn-step bytes (faulty f) e =
        refused-step y r S (learn bytes) f.number f.offset (learn-faulty r bytes f e)
        (ap did_learn (unlearnt-after (now r) found S.valid room u points S.short within bytes f e))
    learn-step bytes (longer g) e =
        goes_step y r S (learn bytes) _ (learn-goes r bytes g e)
        (ap did_learn (learn-after (now r) found S.valid room u points S.short within bytes g e))

    step : (op : Op) → Step op r
    step (take_byte m) = take_step m
    step (set_point k) = set-step k
    step (return_to k) = return-step k (get_or r.points k none) refl
    step (learn bytes) = learn-step bytes (enlarged r.grammar bytes) refl

  -- ---- a list of operations

  record Run (ops : List Op) (r : Remaining) : Type 0 where
    pub replied : AllReplied ops r (ran ops (holds r)).replies
    pub held : (ran ops (holds r)).held ≡ holds (remains_after ops r)

  run : (y : ℕ) (ops : List Op) (r : Remaining) → Sound y r → Run ops r
  unfolding ran remains_after
  run y [] r S = record { replied = tt; held = refl }
  run y (op ∷ ops) r S =
      let one = step y r S op in
      let all = run y ops (remainder (moved op r) r) (move-sound y r S op) in
      record {
        replied = (one.replied, rw one.held all.replied);
        held = ap (λ (x : Held). (ran ops x).held) one.held ∙ all.held;
      }

  -- from the opening on
  module _ (g : Grammar) (y : ℕ) (valid : valid_grammar g ≡ true) where
    opened : held_after g (open_of (dated g y) found) ≡ holds (begun g y)
    opened = ap (held_after g) (open_after (dated g y) found valid room)

    -- opening with the grammar that remains and taking the bytes that remain
    again : (r : Remaining) → Sound y r
        → fed r.grammar (open_of (dated r.grammar y) found) r.bytes ≡ after_with (now r) found no_points r.bytes
    again r S =
        ap (λ (x : ℕ). fed r.grammar (open_of (dated r.grammar x) found) r.bytes) (sym S.year)
        ∙ fed-short (now r) found S.valid room r.bytes S.short

    history-of : (ops : List Op) → Run ops (begun g y) → LearnHistory g y found ops (ran ops (holds (begun g y)))
    unfolding hand_of
    history-of ops R =
        let S = after-sound y ops (begun g y) (begun-sound y g valid) in
        let a = again (remains_after ops (begun g y)) S in
        record {
          replied = R.replied;
          bytes = ap (λ (x : Held). x.state.bytes) R.held ∙ sym (ap (λ (x : Recognition). x.state.bytes) a);
          count = ap (λ (x : Held). x.state.count) R.held ∙ sym (ap (λ (x : Recognition). x.state.count) a);
          chart = ap (λ (x : Held). x.chart) R.held ∙ sym (ap (λ (x : Recognition). x.chart) a);
          points = ap (λ (x : Held). x.state.points) R.held;
          grammar = ap (λ (x : Held). x.grammar) R.held;
          year = ap (λ (x : Held). x.state.year) R.held ∙ S.year;
        }

    learn-history-of : (ops : List Op) → LearnHistory g y found ops (ran ops (held_after g (open_of (dated g y) found)))
    learn-history-of ops = rw opened (history-of ops (run y ops (begun g y) (begun-sound y g valid)))

pub learn-history : (g : Grammar) (y : ℕ) (found : List ℕ) → valid_grammar g ≡ true → cells ≤ length found → (ops : List Op)
    → LearnHistory g y found ops (ran ops (held_after g (open_of (dated g y) found)))
learn-history g y found valid room = learn-history-of found room g y valid
