-- What opening and then taking any row of bytes gives: the first 64 bytes count; each byte after them is refused and changes nothing.
-- Assumes nothing.
use Rattle.std.specs.Prelude.{ℕ, ◌≤◌, ◌<◌, true, false, List, ◌↔◌, ◌⊎◌, ◌≡◌, length, take}
use Rattle.std.proofs.Math.Seq.{slice}
use Rattle.sizes.specs.Sizes.{max_input}
use Rattle.sets.specs.Set.{has}
use Rattle.cfg.specs.Tree.{Forest, Parse, HasTree}
use Rattle.chart.specs.Cell.{cell}
use Rattle.chart.specs.Column.{filled}
use Rattle.grammar.specs.View.{Dated, grammar_of}
use Rattle.results.specs.Answer.{refused, answered}
use Rattle.results.specs.Recognize.{state_of, Recognition}

-- the result r of opening over the chart found and then taking the bytes ms, for the grammar g
pub record Recognized (g : Dated) (found ms : List ℕ) (r : Recognition) : Type 0 where
  -- the state has taken the first 64 bytes, or all if there are fewer, and keeps the year
  pub state : r.state ≡ state_of (take max_input ms) g.year
  -- the chart is the one that is filled with these bytes
  pub chart : r.chart ≡ filled (grammar_of g) (take max_input ms) found
  -- up to 64 bytes: "complete" exactly if the bytes have a tree; without bytes this is opening's own answer
  pub tree : length ms ≤ max_input → (r.answer ≡ answered true) ↔ HasTree (grammar_of g) ms
  pub no_tree : length ms ≤ max_input → (r.answer ≡ answered false) ↔ (HasTree (grammar_of g) ms → ⊥)
  -- more than 64: refused
  pub full : max_input < length ms → r.answer ≡ refused 15
  -- the cell of the span from i to j has exactly the nonterminals with a parse tree over the span
  pub cells : (i j k : ℕ) → i ≤ j → j ≤ length (take max_input ms)
      → (has k (cell r.chart i j) ≡ true) ↔ ((t : Forest) × Parse (grammar_of g) k (slice i j (take max_input ms)) t)
  -- the other cells are zero
  pub zeros : (i j : ℕ) → i ≤ max_input → j ≤ max_input → (j < i) ⊎ (length (take max_input ms) < j) → cell r.chart i j ≡ 0
