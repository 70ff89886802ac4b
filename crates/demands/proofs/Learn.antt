-- Learning a rule over any chart and any state: demand 1, and what is given. Assumes nothing.
use Prim.Native.Nat.{ℕ, zero, suc, ◌-◌, ◌≤◌, ◌<◌}
use native.Mathlib.Decide.{dec_lt}
use native.Mathlib.Omega.{arith}
use mathlib.Core.Bool.{true, false, not}
use mathlib.Core.List.{List, [], ◌∷◌}
use mathlib.Core.Logic.{dite}
use mathlib.Core.Path.{◌≡◌, refl, sym, ap, ◌∙◌, subst}
use lib.ListN.{length, get_or, take, length-take}
use borrow.Author.Tests.{ltb-false, not-false}
use Rattle.sizes.specs.Sizes.{cells, max_input}
use Rattle.sets.specs.Set.{has}
use Rattle.laws.proofs.Bools.{clash}
use Rattle.cfg.specs.Nullable.{depth_of}
use Rattle.chart.specs.Cell.{cell}
use Rattle.chart.specs.Column.{complete, filled}
use Rattle.grammar.specs.declared.Grammar.{Grammar}
use Rattle.grammar.specs.Setters.{set_depth}
use Rattle.grammar.specs.Valid.{valid_grammar}
use Rattle.grammar.specs.View.{whole_of, dated, grammar_of}
use Rattle.theory_tidying.specs.Tidying.{tidied}
use Rattle.results.specs.Answer.{refused, answered}
use Rattle.results.specs.Load.{Fault, Step, stop, next, done}
use Rattle.results.specs.Recognize.{State, Recognition, grammar_check, state_check, chart_check}
use Rattle.results.specs.Learn.{learn_step, Joining, faulty, longer, with_depth, learn_run, enlarged, Learning, learn_in, unlearnt, learn_of}
use Rattle.results.proofs.Answers.{refused-inj, answered-apart}
use Rattle.results.proofs.Decide.{decide-either}
use Rattle.results.proofs.State.{count_low}
use Rattle.results.proofs.Learning.Run.{learn-stop, learn-next, learn-done, learn-forward, learn-past, enlarged-empty, enlarged-some}
use Rattle.results.proofs.Learning.Enlarged.{learn-ended, longer-some}
use Rattle.results.proofs.Learning.Valid.{enlarged-valid}
use Rattle.results.proofs.Learning.Old.{enlarged-start}
use Rattle.demands.specs.Cause.{Decided}
use Rattle.demands.specs.Kept.{ChartKept}
use Rattle.demands.specs.Order.{cause8, cause10, cause14, cause20_empty, NoRefusal}
use Rattle.demands.specs.LearnOrder.{LearnCommandOrder, LearnReached, learn_begin, learn_further, RuleRefused}
use Rattle.demands.specs.Learn.{Reported, LearnOrder, Learnt, LearnDemand}
use Rattle.demands.proofs.Decided.{decided}
use Rattle.demands.proofs.Kept.{chart-same, filled-kept}
use Rattle.demands.proofs.Order.{less, tells8, tells14}
use Rattle.demands.proofs.Recognized.{fed-short}
use Rattle.demands.proofs.LearnOrder.{learn-step-order}
use Rattle.demands.proofs.LearnFault.{learn-fault}

-- ---- the bytes

-- the bytes make the grammar g' of g
pub record RuleRead (g : Grammar) (bytes : List ℕ) (g' : Grammar) : Type 0 where
  pub at : ℕ
  pub read : Grammar
  pub reached : LearnReached g bytes at read
  pub ends : length bytes ≤ at
  pub grammar : g' ≡ set_depth read (depth_of (whole_of read))

module _ (g : Grammar) (bytes : List ℕ) where
  -- what the bytes say
  abbrev Said : Joining → Type 0
  Said (faulty f) = RuleRefused g bytes f.number f.offset
  Said (longer g') = RuleRead g bytes g'

  stops_at : (at : ℕ) (h : Grammar) (f : Fault) → at < length bytes → LearnReached g bytes at h → learn_step bytes at h ≡ stop f
      → Said (faulty f)
  stops_at at h f l R e = record {
    at = at;
    before = h;
    within = l;
    reached = R;
    halts = e;
    fault = learn-fault bytes at h l f.number f.offset e;
    order = subst (LearnCommandOrder bytes at (get_or bytes at 0) h) e (learn-step-order bytes at h l);
  }

  ends_at : (at : ℕ) (h : Grammar) → length bytes ≤ at → LearnReached g bytes at h → Said (with_depth h)
  unfolding with_depth
  ends_at at h l R = record { at = at; read = h; reached = R; ends = l; grammar = refl }

  -- a step that stops is within the bytes
  stop-within : (at : ℕ) (h : Grammar) (f : Fault) → learn_step bytes at h ≡ stop f → at < length bytes
  stop-within at h f e = dite (dec_lt at (length bytes)) (λ l. l)
      (λ l. let q : done h ≡ stop f = sym (learn-past bytes at h (omega arith)) ∙ e in clash cc)

  run-says : (n at : ℕ) (h : Grammar) → length bytes - at ≤ n → LearnReached g bytes at h → Said (learn_run bytes n at h)
  unfolding learn_run
  run-says zero at h l R = ends_at at h (omega arith) R
  run-says (suc n) at h l R = go (learn_step bytes at h) refl (run-says n)
    where
      go : (s : Step) → learn_step bytes at h ≡ s
          → ((at' : ℕ) (h' : Grammar) → length bytes - at' ≤ n → LearnReached g bytes at' h' → Said (learn_run bytes n at' h'))
          → Said (learn_run bytes (suc n) at h)
      go (stop f) e later = subst Said (sym (learn-stop n bytes at h f e)) (stops_at at h f (stop-within at h f e) R e)
      go (next at' h') e later =
          let f = learn-forward bytes at h at' h' e in
          subst Said (sym (learn-next n bytes at h at' h' e)) (later at' h' (omega arith) (learn_further R e))
      go (done h') e later =
          let (l, s) = learn-ended bytes at h h' e in
          subst Said (sym (learn-done n bytes at h h' e)) (subst (λ (x : Grammar). Said (with_depth x)) (sym s) (ends_at at h l R))

  bytes-say : 0 < length bytes → Said (enlarged g bytes)
  bytes-say some = subst Said (sym (enlarged-some g bytes some)) (run-says (length bytes) 0 (tidied g) (omega arith) learn_begin)

-- ---- the call

module _ (g : Grammar) (h : State) (bytes chart : List ℕ) where
  -- what learning gives once the checks are passed
  abbrev after : Joining → Learning
  after j = elim j [ faulty f ↦ unlearnt g h chart f | longer g' ↦ learn_in g' h chart ]

  -- P holds of each refusal by a check, of each fault of the bytes, and of each rule that is learnt
  pub by_cases : (P : Learning → Type 0) → ((f : Fault) → P (unlearnt g h chart f))
      → (valid_grammar g ≡ true → (state_check h).fails ≡ false → (chart_check chart).fails ≡ false → (g' : Grammar) → enlarged g bytes ≡ longer g'
      → P (learn_in g' h chart)) → P (learn_of g h bytes chart)
  unfolding learn_of
  by_cases P fails goes = decide-either _ _ P _ (λ n. fails _)
      (λ p. let (valid, (state, (room, u))) = p in go (enlarged g bytes) refl (goes (not-false (valid_grammar g) valid) state room))
    where
      go : (j : Joining) → enlarged g bytes ≡ j
          → ((g' : Grammar) → enlarged g bytes ≡ longer g' → P (learn_in g' h chart)) → P (after (enlarged g bytes))
      go (faulty f) e y = rw e (fails f)
      go (longer g') e y = rw e (y g' e)

  learn-kept : ChartKept chart (learn_of g h bytes chart).chart
  unfolding learn_in
  learn-kept = by_cases (λ r. ChartKept chart r.chart) (λ f. chart-same chart)
      (λ valid state room g' e. filled-kept (dated g' h.year) (take h.count h.bytes) chart (record {
        valid = enlarged-valid g g' bytes valid e;
        short = omega (arith, length-take h.count h.bytes, count_low h state);
        room = ltb-false (length chart) cells room;
      }))

  learn-untouched : (n : ℕ) → (learn_of g h bytes chart).answer ≡ refused n
      → ((learn_of g h bytes chart).grammar ≡ g) × ((learn_of g h bytes chart).state ≡ h) × ((learn_of g h bytes chart).chart ≡ chart)
  unfolding learn_in
  learn-untouched n = by_cases (λ r. r.answer ≡ refused n → (r.grammar ≡ g) × (r.state ≡ h) × (r.chart ≡ chart))
      (λ f e. (refl, refl, refl)) (λ valid state room g' e p. absurd (answered-apart p))

  learn-learnt : NoRefusal (learn_of g h bytes chart).answer → Learnt g h bytes chart (learn_of g h bytes chart)
  unfolding learn_in complete
  learn-learnt = by_cases (λ r. NoRefusal r.answer → Learnt g h bytes chart r) (λ f none. absurd (none f.number refl))
      (λ valid state room g' e none.
      let R = subst (Said g bytes) e (bytes-say g bytes (longer-some g g' bytes e)) in
      let w = take h.count h.bytes in
      let fits = fed-short (dated g' h.year) chart (enlarged-valid g g' bytes valid e) (ltb-false (length chart) cells room) w
      (omega (arith, length-take h.count h.bytes, count_low h state)) in
      record {
        at = R.at;
        read = R.read;
        reached = R.reached;
        ends = R.ends;
        grammar = R.grammar;
        state = refl;
        chart = sym (ap (λ (x : Recognition). x.chart) fits);
        complete = ap (λ (k : ℕ). answered (has k (cell (filled (grammar_of (dated g' h.year)) w chart) 0 h.count)))
            (enlarged-start g g' bytes e);
        offset = refl;
      })

  -- what the bytes decide: 20 at 0 if there are none, else the first fault of a command
  abbrev ByBytes : Reported → Type 0
  ByBytes =
      Decided (cause20_empty bytes ∷ []) (λ n. (refused n, 0)) (λ r. (n : ℕ) → r.0 ≡ refused n → RuleRefused g bytes n r.1)

  reported-after : ByBytes ((after (enlarged g bytes)).answer, (after (enlarged g bytes)).offset)
  unfolding Decided learn_in
  reported-after = (none bytes, λ some. go (enlarged g bytes) (bytes-say g bytes (omega (arith, some))))
    where
      none : (b : List ℕ) → length b ≡ 0 → ◌≡◌ {A = Reported} ((after (enlarged g b)).answer, (after (enlarged g b)).offset) (refused 20, 0)
      none [] e = rw (enlarged-empty g)
      none (b ∷ l) e = absurd (omega arith)

      go : (j : Joining) → Said g bytes j → (n : ℕ) → (after j).answer ≡ refused n → RuleRefused g bytes n (after j).offset
      go (faulty f) S n e = subst (λ (m : ℕ). RuleRefused g bytes m f.offset) (refused-inj e) S
      go (longer g') S n e = absurd (answered-apart e)

  learn-order : LearnOrder g h bytes chart ((learn_of g h bytes chart).answer, (learn_of g h bytes chart).offset)
  unfolding learn_of Decided
  learn-order =
      decided {C = Reported} _ _ (λ (r : Learning). (r.answer, r.offset)) ByBytes reported-after
      (grammar_check g ∷ state_check h ∷ chart_check chart ∷ [])
      (cause8 g ∷ cause14 h ∷ cause10 chart ∷ []) (tells8 g, (tells14 h, (less (length chart) cells 10, tt)))

  pub learn-demand : LearnDemand g h bytes chart (learn_of g h bytes chart)
  learn-demand = record { kept = learn-kept; order = learn-order; untouched = learn-untouched; learnt = learn-learnt }
