-- Learning a rule (document 02, U8), over ANY chart and any state: what is kept, which refusal is given with which offset, what each refusal
-- leaves, and what is given otherwise; what the longer grammar has of the old one. Assumes nothing.
use Rattle.std.specs.Prelude.{ℕ, ◌+◌, ◌≤◌, Bool, List, [], ◌∷◌, ◌≡◌, length, take}
use Rattle.sets.specs.Set.{has}
use Rattle.cfg.specs.Nullable.{depth_of}
use Rattle.chart.specs.Cell.{cell}
use Rattle.theory_embedding.specs.Embedding.{Embeds}
use Rattle.grammar.specs.declared.Grammar.{Grammar}
use Rattle.grammar.specs.Setters.{set_depth}
use Rattle.grammar.specs.View.{whole_of, dated, grammar_of}
use Rattle.results.specs.Answer.{Answer, refused, answered}
use Rattle.results.specs.Recognize.{State, hand_of, open_of, fed}
use Rattle.results.specs.Learn.{Learning}
use Rattle.demands.specs.Cause.{Decided}
use Rattle.demands.specs.Kept.{ChartKept}
use Rattle.demands.specs.Order.{cause8, cause10, cause14, cause20_empty, NoRefusal}
use Rattle.demands.specs.LearnOrder.{LearnReached, RuleRefused}

-- an answer with the offset given for it
abbrev pub Reported : Type 0
Reported = Answer Bool × ℕ

-- 8, 14 and 10, then 20 for no bytes, each at 0; then only what the bytes say is refused
abbrev pub LearnOrder : Grammar → State → List ℕ → List ℕ → Reported → Type 0
LearnOrder g h bytes chart =
    Decided (cause8 g ∷ cause14 h ∷ cause10 chart ∷ cause20_empty bytes ∷ []) (λ n. (refused n, 0))
    (λ reported. (n : ℕ) → reported.0 ≡ refused n → RuleRefused g bytes n reported.1)

-- the result r of learning these bytes, which is not refused, in the state h over the chart found
pub record Learnt (g : Grammar) (h : State) (bytes found : List ℕ) (r : Learning) : Type 0 where
  -- no command has a fault, and the last one ends where the bytes end
  pub at : ℕ
  pub read : Grammar
  pub reached : LearnReached g bytes at read
  pub ends : length bytes ≤ at
  -- the grammar is what the commands say with its nullable depth
  pub grammar : r.grammar ≡ set_depth read (depth_of (whole_of read))
  -- the bytes taken, the points and the year are kept, and the unused bytes are zero
  pub state : r.state ≡ hand_of (take h.count h.bytes) h.points h.year
  -- the chart is as opening with this grammar and taking the bytes leaves it
  pub chart : r.chart ≡ (fed r.grammar (open_of (dated r.grammar h.year) found) (take h.count h.bytes)).chart
  -- complete: the start symbol is in the cell of the bytes taken
  pub complete : r.answer ≡ answered (has g.start (cell r.chart 0 h.count))
  pub offset : r.offset ≡ 0

-- the result r of learning these bytes in the state h
pub record LearnDemand (g : Grammar) (h : State) (bytes chart : List ℕ) (r : Learning) : Type 0 where
  pub kept : ChartKept chart r.chart
  pub order : LearnOrder g h bytes chart (r.answer, r.offset)
  -- if it is refused, it leaves the grammar, the state and the chart as found
  pub untouched : (n : ℕ) → r.answer ≡ refused n → (r.grammar ≡ g) × (r.state ≡ h) × (r.chart ≡ chart)
  -- else the rule is learnt
  pub learnt : NoRefusal r.answer → Learnt g h bytes chart r

-- the grammar g' is g with one rule more: the old rules are its rules, under the same numbers, of the whole grammar and in every year
pub record Longer (g g' : Grammar) : Type 0 where
  pub start : g'.start ≡ g.start
  pub count : g'.count ≡ g.count + 1
  -- its nullable depth is its own
  pub depth : g'.depth ≡ depth_of (whole_of g')
  pub whole : Embeds (λ r. r) (whole_of g) (whole_of g')
  pub years : (y : ℕ) → Embeds (λ r. r) (grammar_of (dated g y)) (grammar_of (dated g' y))
