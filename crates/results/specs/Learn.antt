-- Learning a rule (document 02, U8): from the bytes of one rule to the longer grammar, the state and the chart, or to the number and the
-- offset of the first fault. Assumes nothing.
use Rattle.std.specs.Prelude.{ℕ, zero, suc, Bool, true, false, cond, ◌&&◌, ◌||◌, not, List, [], ◌∷◌, eqb, ltb, length, get_or, take}
use Rattle.cfg.specs.Nullable.{depth_of}
use Rattle.chart.specs.Column.{filled, complete}
use Rattle.grammar.specs.declared.Grammar.{Grammar}
use Rattle.grammar.specs.Setters.{set_depth}
use Rattle.grammar.specs.View.{dated, whole_of, grammar_of}
use Rattle.theory_tidying.specs.Tidying.{tidied}
use Rattle.results.specs.Answer.{Answer, refused, answered, Check, decide}
use Rattle.results.specs.Load.{Fault, fault, unknown, opens_rule, open_named, operand_checks, Step, stop, next, done, carried_out}
use Rattle.results.specs.Recognize.{State, hand_of, grammar_check, state_check, chart_check}

-- 20 not one rule: the first command opens none, or a later one opens one, is 10 or 50
unfoldable pub misplaced : ℕ → ℕ → Bool
misplaced c at = cond (eqb at 0) (not (opens_rule c)) (opens_rule c || eqb c 0x10 || eqb c 0x50)

-- all checks of the command c at an offset, in their order; 3 is a second name for the rule
unfoldable pub learn_checks : List ℕ → ℕ → ℕ → Grammar → List (Check Fault)
learn_checks bytes at c g =
    fault (unknown c) 2 at ∷ fault (misplaced c at) 20 at ∷ fault (eqb c 0x60 && open_named g) 3 at ∷ operand_checks bytes at c g

-- one command at an offset, with any grammar read so far: what loading does with it; the rule ends where the bytes end
unfoldable pub learn_step : List ℕ → ℕ → Grammar → Step
learn_step bytes at g =
    let c = get_or bytes at 0 in
    elim (ltb at (length bytes)) [
      | true ↦ decide (learn_checks bytes at c g) stop (λ _. carried_out bytes at c g)
      | false ↦ done g
    ]

-- what the bytes of a rule make of a grammar: a fault, or a longer grammar
pub data Joining : Type 0 where
  faulty : Fault → Joining
  longer : Grammar → Joining

-- a rule read to its end: the grammar with its nullable depth (blank depth)
unfoldable pub with_depth : Grammar → Joining
with_depth g = longer (set_depth g (depth_of (whole_of g)))

-- at most n commands, from an offset and a grammar on. A rule has at most as many commands as bytes, so after these it has ended
unfoldable pub learn_run : List ℕ → ℕ → ℕ → Grammar → Joining
learn_run bytes zero at g = with_depth g
learn_run bytes (suc n) at g =
    elim (learn_step bytes at g) [ stop f ↦ faulty f | next at' g' ↦ learn_run bytes n at' g' | done g' ↦ with_depth g' ]

-- the grammar g without rubbish and with the rule of these bytes; no bytes are 20
unfoldable pub enlarged : Grammar → List ℕ → Joining
enlarged g bytes =
    decide (fault (eqb (length bytes) 0) 20 0 ∷ []) faulty (λ _. learn_run bytes (length bytes) 0 (tidied g))

-- what learning gives: the answer, yes if complete, with an offset, the grammar, the state, and what the chart holds at the end
pub record Learning : Type 0 where
  pub answer : Answer Bool
  pub offset : ℕ
  pub grammar : Grammar
  pub state : State
  pub chart : List ℕ

-- the rule is learnt, and g is the longer grammar: the bytes, points and year remain, and the chart is filled anew
unfoldable pub learn_in : Grammar → State → List ℕ → Learning
learn_in g h chart =
    let G = grammar_of (dated g h.year) in
    let w = take h.count h.bytes in
    let left = filled G w chart in
    record {
      answer = answered (complete G h.count left);
      offset = 0;
      grammar = g;
      state = hand_of w h.points h.year;
      chart = left;
    }

-- a rule that is refused leaves all as found
abbrev pub unlearnt : Grammar → State → List ℕ → Fault → Learning
unlearnt g h chart f = record { answer = refused f.number; offset = f.offset; grammar = g; state = h; chart = chart }

-- learning, in the year of the state
unfoldable pub learn_of : Grammar → State → List ℕ → List ℕ → Learning
learn_of g h bytes chart =
    decide (grammar_check g ∷ state_check h ∷ chart_check chart ∷ [])
    (λ n. unlearnt g h chart (record { number = n; offset = 0 }))
    (λ _. elim (enlarged g bytes) [ faulty f ↦ unlearnt g h chart f | longer g' ↦ learn_in g' h chart ])
