-- Demand 1 for each call: what it keeps, which refusal it gives, and what each refusal leaves. Assumes nothing.
use Rattle.std.specs.Prelude.{ℕ, ◌≤◌, ◌<◌, true, List, [], ◌≡◌, length}
use Rattle.sizes.specs.Sizes.{cells}
use Rattle.chart.specs.Column.{filled}
use Rattle.grammar.specs.declared.Grammar.{Grammar}
use Rattle.grammar.specs.Valid.{valid_grammar}
use Rattle.grammar.specs.View.{Dated, grammar_of}
use Rattle.results.specs.Answer.{refused}
use Rattle.results.specs.Recognize.{State, state_of, Recognition}
use Rattle.results.specs.Check.{Checking}
use Rattle.results.specs.Enumerate.{Enumeration}
use Rattle.results.specs.Words.{Writing}
use Rattle.demands.specs.Kept.{ChartKept, writes, bytes_written, OutputKept}
use Rattle.results.specs.Ready.{Ready, ReadyOut}
use Rattle.demands.specs.Order.{OpenOrder, TakeOrder, InputOrder, OutputOrder, WordsOrder}

-- opening
pub record OpenDemand (g : Dated) (chart : List ℕ) (r : Recognition) : Type 0 where
  pub kept : ChartKept chart r.chart
  pub order : OpenOrder g chart r.answer
  -- if it is refused, it leaves the chart as found and gives a state of zeros
  pub untouched : (n : ℕ) → r.answer ≡ refused n → (r.chart ≡ chart) × (r.state ≡ state_of [] 0)
  -- else the chart is the one that is filled with no bytes
  pub opened : valid_grammar g.grammar ≡ true → cells ≤ length chart → r.chart ≡ filled (grammar_of g) [] chart

-- taking
pub record TakeDemand (g : Grammar) (h : State) (chart : List ℕ) (r : Recognition) : Type 0 where
  pub kept : ChartKept chart r.chart
  pub order : TakeOrder g h chart r.answer
  -- if it is refused, it leaves the chart and the state as found
  pub untouched : (n : ℕ) → r.answer ≡ refused n → (r.chart ≡ chart) × (r.state ≡ h)

-- check, length, same build and count
pub record InputDemand {A : Type 0} (g : Dated) (w chart : List ℕ) (r : Checking A) : Type 0 where
  pub kept : ChartKept chart r.chart
  pub order : InputOrder g w chart r.answer
  -- refusals 8 to 10 leave the chart as found
  pub untouched : (n : ℕ) → n < 12 → r.answer ≡ refused n → r.chart ≡ chart
  -- once these checks are passed, the chart is filled for the input, whatever the answer
  pub chart_filled : Ready g w chart → r.chart ≡ filled (grammar_of g) w chart

-- first and next
pub record OutputDemand (g : Dated) (w chart out : List ℕ) (r : Enumeration) : Type 0 where
  pub kept : ChartKept chart r.chart
  pub output : OutputKept (writes r.answer) out r.output
  pub order : OutputOrder g w chart out r.answer
  -- refusals 8 to 11 leave chart and output as found
  pub untouched : (n : ℕ) → n < 12 → r.answer ≡ refused n → (r.chart ≡ chart) × (r.output ≡ out)
  -- once these checks are passed, the chart is filled for the input, whatever the answer
  pub chart_filled : ReadyOut g w chart out → r.chart ≡ filled (grammar_of g) w chart

-- words
pub record WordsDemand (g : Dated) (w e chart buffer : List ℕ) (r : Writing) : Type 0 where
  pub kept : ChartKept chart r.chart
  -- the buffer counts as an output, so a refused call leaves all of it as found
  pub output : OutputKept (bytes_written r.answer) buffer r.buffer
  pub order : WordsOrder g w e chart buffer r.answer
  -- refusals 8 to 10 leave chart and buffer as found
  pub untouched : (n : ℕ) → n < 12 → r.answer ≡ refused n → (r.chart ≡ chart) × (r.buffer ≡ buffer)
  -- once these checks are passed, the chart is filled for the input, whatever the answer
  pub chart_filled : Ready g w chart → r.chart ≡ filled (grammar_of g) w chart
