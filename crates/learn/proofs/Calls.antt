-- What learning gives, by the checks in the code: one law for each path through the code. Assumes nothing.
use Prim.Native.Nat.{ℕ, ◌-◌, ◌≤◌, ◌<◌}
use native.Mathlib.Omega.{arith}
use mathlib.Core.Bool.{Bool, true, false}
use mathlib.Core.List.{List, ◌++◌}
use mathlib.Core.Path.{◌≡◌, refl, sym, ap, ◌∙◌}
use lib.ListN.{length, take, replicate, length-append}
use lib.Seq.{length-take-le, take_at}
use borrow.Author.Tests.{lt-ltb, le-ltb}
use Rattle.sizes.specs.Sizes.{cells, max_input}
use Rattle.sets.specs.Set.{has}
use Rattle.cfg.specs.Nullable.{depth_of}
use Rattle.chart.specs.Cell.{cell}
use Rattle.chart.specs.Column.{filled, complete}
use Rattle.grammar.specs.declared.Grammar.{Grammar}
use Rattle.grammar.specs.Setters.{set_depth}
use Rattle.grammar.specs.Valid.{valid_grammar}
use Rattle.grammar.specs.View.{dated, whole_of, grammar_of}
use Rattle.answers.specs.declared.Fault.{Fault}
use Rattle.std.specs.Prelude.{Result, Ok, Err}
use Rattle.answers.specs.Number.{number_of}
use Rattle.answers.specs.Answers.{outcome_of}
use Rattle.results.specs.Answer.{Answer, refused, answered, refused_at, loaded, decide}
use Rattle.results.specs.Load.{Loading, accepted_load}
use Rattle.results.specs.Recognize.{State, state_with, state_check}
use Rattle.results.specs.Learn.{Joining, faulty, longer, enlarged, Learning, learn_in, unlearnt, learn_of}
use Rattle.recognizer.proofs.Copied.{front-state}
use Rattle.learn.specs.Reading.{reading_of, joined_to}

-- ---- the longer grammar

abbrev joined : Result (Unit {0}) Fault → Grammar → Loading
joined o g = record { answer = outcome_of o; grammar = g }

pub deepens : (g : Grammar) (d : ℕ) → d ≡ depth_of (whole_of g)
    → reading_of (record { outcome = Ok tt; grammar = set_depth g d }) ≡ accepted_load g
unfolding accepted_load
deepens g d e = ap (λ (n : ℕ). reading_of (record { outcome = Ok tt; grammar = set_depth g n })) e

-- ---- the five parts of what the call gives

abbrev pub learned : Answer Bool → ℕ → Grammar → State → List ℕ → Learning
learned a at g h chart = record { answer = a; offset = at; grammar = g; state = h; chart = chart }

learned-same : (a a' : Answer Bool) (at : ℕ) (g : Grammar) (h h' : State) (c c' : List ℕ) → a ≡ a' → h ≡ h' → c ≡ c'
    → learned a at g h c ≡ learned a' at g h' c'
learned-same a a' at g h h' c c' e f k = λ i. learned (e i) at g (f i) (k i)

-- the bytes of the state, which are copied
module _ (h : State) (bytes : List ℕ) (long : length h.bytes ≡ max_input) (few : h.count ≤ max_input)
    (copied : bytes ≡ take h.count h.bytes ++ replicate (max_input - h.count) 0) where
  front-size : length (take h.count h.bytes) ≡ h.count
  front-size = length-take-le h.count h.bytes (omega arith)

  same : take h.count bytes ≡ take h.count h.bytes
  same =
      ap (take h.count) copied
      ∙ take_at (take h.count h.bytes) (replicate (max_input - h.count) 0) h.count front-size

  pub front_fits : h.count ≤ length bytes
  front_fits =
      let size = ap length copied ∙ length-append (take h.count h.bytes) (replicate (max_input - h.count) 0) in
      omega (arith, size, front-size)

  -- the chart is filled for them
  pub filled-right : (g : Grammar) (chart chart' : List ℕ) (a : Answer Bool)
      → chart' ≡ filled (grammar_of (dated g h.year)) (take h.count bytes) chart
      → a ≡ answered (has g.start (cell chart' 0 h.count))
      → learned a 0 g (state_with bytes h.count h.year h.points) chart' ≡ learn_in g h chart
  unfolding learn_in complete
  filled-right g chart chart' a f k =
      let c = f ∙ ap (λ (x : List ℕ). filled (grammar_of (dated g h.year)) x chart) same in
      learned-same a _ 0 g _ _ chart' _ (k ∙ ap (λ (x : List ℕ). answered (has g.start (cell x 0 h.count))) c)
      (front-state h.bytes long h.count h.year h.points bytes few copied) c

-- ---- the checks

module _ (g : Grammar) (h : State) (bytes chart : List ℕ) where
  -- the refusals 8, 14 and 10, each of which leaves all as found
  module _ (a : Answer Bool) (at : ℕ) (g' : Grammar) (k : State) (zero : at ≡ 0) (same : g' ≡ g) (kept : k ≡ h) where
    refuses : (n : ℕ) → a ≡ refused n → learned a at g' k chart ≡ unlearnt g h chart (record { number = n; offset = 0 })
    refuses n e = λ i. learned (e i) (zero i) (same i) (kept i) chart

    pub learn-invalid : valid_grammar g ≡ false → a ≡ refused 8 → learned a at g' k chart ≡ learn_of g h bytes chart
    unfolding learn_of decide
    learn-invalid v e = rw v (refuses 8 e)

    pub learn-over : valid_grammar g ≡ true → (state_check h).fails ≡ true → a ≡ refused 14
        → learned a at g' k chart ≡ learn_of g h bytes chart
    unfolding learn_of decide
    learn-over v s e = rw (v, s) (refuses 14 e)

    pub learn-short : valid_grammar g ≡ true → (state_check h).fails ≡ false → length chart < cells → a ≡ refused 10
        → learned a at g' k chart ≡ learn_of g h bytes chart
    unfolding learn_of decide
    learn-short v s l e = rw (v, s, lt-ltb (length chart) cells l) (refuses 10 e)

  -- what comes after them, and the same from what reading gave
  abbrev judged : Joining → Learning
  judged j = elim j [ faulty f ↦ unlearnt g h chart f | longer g' ↦ learn_in g' h chart ]

  abbrev after : Loading → Learning
  after r = elim r.answer [ refused_at n at ↦ learned (refused n) at r.grammar h chart | loaded ↦ learn_in r.grammar h chart ]

  joined-after : (j : Joining) → after (joined_to g j) ≡ judged j
  joined-after (faulty f) = refl
  joined-after (longer g') = refl

  module _ (valid : valid_grammar g ≡ true) (state : (state_check h).fails ≡ false)
      (room : cells ≤ length chart) (o : Result (Unit {0}) Fault) (g' : Grammar)
      (read : joined o g' ≡ joined_to g (enlarged g bytes)) where
    passed : after (joined o g') ≡ learn_of g h bytes chart
    unfolding learn_of decide
    passed = rw (valid, state, le-ltb (length chart) cells room) (ap after read ∙ joined-after (enlarged g bytes))

    pub learns-longer : o ≡ Ok tt → (l : Learning) → l ≡ learn_in g' h chart → l ≡ learn_of g h bytes chart
    learns-longer e l s = s ∙ ap (λ (x : Result (Unit {0}) Fault). after (joined x g')) (sym e) ∙ passed

    pub learns-faulty : (x : Fault) → o ≡ Err x → (a : Answer Bool) (at' : ℕ) (g'' : Grammar) (k : State)
        → a ≡ refused (number_of x.refusal) → at' ≡ x.at → g'' ≡ g' → k ≡ h → learned a at' g'' k chart ≡ learn_of g h bytes chart
    learns-faulty x e a at' g'' k f p q s =
        (λ i. learned (f i) (p i) (q i) (s i) chart) ∙ ap (λ (x : Result (Unit {0}) Fault). after (joined x g')) (sym e) ∙ passed
