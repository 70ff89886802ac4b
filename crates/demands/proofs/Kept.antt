-- Whatever is handed in: a call keeps the length of the chart and what comes after its 4,225 cells; first and next keep the length of the
-- output and what comes after a derivation handed out, and the whole output if none is. Assumes nothing.
use Prim.Native.Nat.{ℕ, ◌*◌, ◌/◌, ◌≤◌}
use mathlib.Core.List.{List, [], ◌∷◌, ◌++◌, Memᴰ}
use mathlib.Core.Option.{Option, none, some}
use mathlib.Core.Path.{◌≡◌, refl, sym, ap, ◌∙◌}
use native.Mathlib.Omega.{arith}
use lib.ListN.{length, take, drop, length-append, length-drop, length-take}
use lib.Seq.{drop_at}
use borrow.Author.Tests.{ltb-false, eqb-false}
use Rattle.sizes.specs.Sizes.{cells, max_input, output_size}
use Rattle.laws.proofs.Bools.{or-neither}
use Rattle.cfg.specs.Grammar.{Cfg}
use Rattle.cfg.specs.Listing.{L}
use Rattle.chart.specs.Cell.{fits_at}
use Rattle.chart.specs.Column.{extended, filled}
use Rattle.chart.proofs.Written.{written_behind}
use Rattle.chart.proofs.Filled.{extended-length, opened-length, opened-behind}
use Rattle.chart.proofs.Truth.{filled-length, filled-behind}
use Rattle.grammar.specs.declared.Grammar.{Grammar}
use Rattle.grammar.specs.View.{Dated, dated, grammar_of}
use Rattle.results.specs.Answer.{Answer, refused, Handing}
use Rattle.results.specs.Recognize.{State, Recognition, open_in, open_of, take_in, take_of}
use Rattle.results.specs.Check.{Checking, on_input, check_in, check_of}
use Rattle.results.specs.Measure.{length_in, length_of, same_build_in, same_build_of}
use Rattle.results.specs.Enumerate.{Enumeration, handing_out, on_output, first_in, first_of, next_in, next_of, count_in, count_of}
use Rattle.demands.specs.Kept.{ChartKept, writes, OutputKept}
use Rattle.results.specs.Ready.{Ready, ReadyOut}
use Rattle.results.proofs.Decide.{decide-either}
use Rattle.results.proofs.Passed.{pass→ready, pass→ready_out}
use Rattle.demands.proofs.Handed.{head_of-member, after_in-member}
use Rattle.results.proofs.Demand3.Listed.{reading-even, reading-short}

-- ---- the chart

pub chart-same : (chart : List ℕ) → ChartKept chart chart
chart-same chart = record { same_length = refl; behind = refl }

pub filled-kept : (g : Dated) (w chart : List ℕ) → Ready g w chart → ChartKept chart (filled (grammar_of g) w chart)
filled-kept g w chart r = record {
  same_length = filled-length (grammar_of g) w chart r.room;
  behind = filled-behind (grammar_of g) w chart r.short;
}

pub open_kept : (g : Dated) (chart : List ℕ) → ChartKept chart (open_of g chart).chart
unfolding open_of open_in
open_kept g chart =
    decide-either _ _ (λ (r : Recognition). ChartKept chart r.chart) _ (λ n. chart-same chart) (λ p.
    let (valid, (room, u)) = p in
    record {
      same_length = opened-length (grammar_of g) chart (ltb-false (length chart) cells room);
      behind = opened-behind (grammar_of g) chart;
    })

pub take-kept : (g : Grammar) (h : State) (m : ℕ) (chart : List ℕ) → ChartKept chart (take_of g h m chart).chart
unfolding take_of take_in extended
take-kept g h m chart =
    let w = take h.count h.bytes ++ (m ∷ []) in
    decide-either _ _ (λ (r : Recognition). ChartKept chart r.chart) _ (λ n. chart-same chart) (λ p.
    let (valid, (small, (room, (free, u)))) = p in
    let c : h.count ≤ max_input = ltb-false max_input h.count (or-neither _ _ small).0 in
    let d : ¬ (h.count ≡ max_input) = eqb-false h.count max_input free in
    let l : length w ≤ max_input = omega (arith, length-append (take h.count h.bytes) (m ∷ []), length-take h.count h.bytes) in
    record {
      same_length = extended-length (grammar_of (dated g h.year)) w chart;
      behind = written_behind (grammar_of (dated g h.year)) (fits_at w) (length w) chart l;
    })

-- the calls that write no output
module _ (g : Dated) (w chart : List ℕ) where
  on_input-kept : {A : Type 0} (go : Cfg → Checking A) → (go (grammar_of g)).chart ≡ filled (grammar_of g) w chart
      → ChartKept chart (on_input g w chart go).chart
  unfolding on_input
  on_input-kept {A} go e =
      decide-either _ _ (λ (r : Checking A). ChartKept chart r.chart) _ (λ n. chart-same chart)
      (λ p. rw e (filled-kept g w chart (pass→ready g w chart p)))

  pub check-kept : (offered : List ℕ) → ChartKept chart (check_of g w offered chart).chart
  unfolding check_of check_in
  check-kept offered = on_input-kept _ refl

  pub length-kept : (offered : List ℕ) → ChartKept chart (length_of g w offered chart).chart
  unfolding length_of length_in
  length-kept offered = on_input-kept _ refl

  pub same-build-kept : (a b : List ℕ) → ChartKept chart (same_build_of g w a b chart).chart
  unfolding same_build_of same_build_in
  same-build-kept a b = on_input-kept _ refl

  pub count_kept : ChartKept chart (count_of g w chart).chart
  unfolding count_of count_in
  count_kept = on_input-kept _ refl

-- ---- the output

pub output-same : (n : ℕ) (out : List ℕ) → OutputKept n out out
output-same n out = record { same_length = refl; rest = refl }

module _ (e out : List ℕ) (even : 2 * (length e / 2) ≡ length e) (fits : length e ≤ length out) where
  output-handed : OutputKept (2 * (length e / 2)) out (e ++ drop (length e) out)
  output-handed = record {
    same_length = omega (arith, length-append e (drop (length e) out), length-drop (length e) out);
    rest = drop_at e (drop (length e) out) (2 * (length e / 2)) (sym even) ∙ ap (λ (i : ℕ). drop i out) (sym even);
  }

pub handing-chart : (o : Option (List ℕ)) (answer : Answer Handing) (chart out : List ℕ) → (handing_out o answer chart out).chart ≡ chart
unfolding handing_out
handing-chart none answer chart out = refl
handing-chart (some e) answer chart out = refl

-- a derivation that is handed out is in the list
module _ (g : Dated) (w chart out : List ℕ) (answer : Answer Handing) (space : output_size ≤ length out) where
  handing-kept : (o : Option (List ℕ)) → ((e : List ℕ) → o ≡ some e → Memᴰ e (L (grammar_of g) w))
      → OutputKept (writes (handing_out o answer chart out).answer) out (handing_out o answer chart out).output
  unfolding handing_out
  handing-kept none m = output-same (writes answer) out
  handing-kept (some e) m =
      let i = m e refl in
      output-handed e out (reading-even (grammar_of g) w e i) (omega (arith, reading-short (grammar_of g) w e i))

-- what a call with an output keeps of both
abbrev pub Both : (chart out : List ℕ) → Enumeration → Type 0
Both chart out r = ChartKept chart r.chart × OutputKept (writes r.answer) out r.output

module _ (g : Dated) (w chart out : List ℕ) where
  handing-both : ReadyOut g w chart out → (answer : Answer Handing) (o : Option (List ℕ))
      → ((e : List ℕ) → o ≡ some e → Memᴰ e (L (grammar_of g) w))
      → Both chart out (handing_out o answer (filled (grammar_of g) w chart) out)
  handing-both r answer o m = (
    rw (handing-chart o answer (filled (grammar_of g) w chart) out) (filled-kept g w chart r.input),
    handing-kept g w (filled (grammar_of g) w chart) out answer r.space o m,
  )

  refused-both : (n : ℕ) → Both chart out (record { answer = refused n; chart = chart; output = out })
  refused-both n = (chart-same chart, output-same 0 out)

  pub first-kept : Both chart out (first_of g w chart out)
  unfolding first_of on_output first_in
  first-kept =
      decide-either _ _ (Both chart out) _ refused-both
      (λ p. handing-both (pass→ready_out g w chart out p) _ _ (head_of-member (L (grammar_of g) w)))

  pub next-kept : (offered : List ℕ) → Both chart out (next_of g w offered chart out)
  unfolding next_of on_output next_in
  next-kept offered =
      decide-either _ _ (Both chart out) _ refused-both
      (λ p. let r = pass→ready_out g w chart out p in
      decide-either _ _ (Both chart out) _ (λ n. (filled-kept g w chart r.input, output-same 0 out))
      (λ q. handing-both r _ _ (after_in-member offered (L (grammar_of g) w))))
