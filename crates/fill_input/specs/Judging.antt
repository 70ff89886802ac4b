-- The first of the checks 8 to 11 that fails, and what filling requires. Assumes nothing.
use Rattle.std.specs.Prelude.{ℕ, ◌≤◌, ◌<◌, true, false, ◌≡◌, Result, Ok, Err}
use Rattle.sizes.specs.Sizes.{cells, output_size, max_input}
use Rattle.grammar.specs.declared.Grammar.{Grammar}
use Rattle.grammar.specs.Valid.{valid_grammar}
use Rattle.answers.specs.declared.Refusal.{Refusal}
use Rattle.answers.specs.declared.Refusal.TheVariants.{InvalidGrammar, InputLength, ChartTooShort, OutputTooShort}

-- what filling requires: a valid grammar, an input of at most 64 bytes (n) and a chart of enough cells (m)
abbrev pub Fillable : Grammar → ℕ → ℕ → Type 0
Fillable g n m = (valid_grammar g ≡ true) × (n ≤ max_input) × (cells ≤ m)

-- checks 8, 9 and 10, for an input of n bytes and a chart of m cells
pub data Judging (g : Grammar) (n m : ℕ) : Result Unit Refusal → Type 0 where
  passed : valid_grammar g ≡ true → n ≤ max_input → cells ≤ m → Judging g n m (Ok tt)
  invalid : valid_grammar g ≡ false → Judging g n m (Err InvalidGrammar)
  long_input : valid_grammar g ≡ true → max_input < n → Judging g n m (Err InputLength)
  no_room : valid_grammar g ≡ true → n ≤ max_input → m < cells → Judging g n m (Err ChartTooShort)

-- and then check 11, for an output of k numbers
pub data JudgingOutput (g : Grammar) (n m k : ℕ) : Result Unit Refusal → Type 0 where
  all_passed : Judging g n m (Ok tt) → output_size ≤ k → JudgingOutput g n m k (Ok tt)
  before : {r : Refusal} → Judging g n m (Err r) → JudgingOutput g n m k (Err r)
  no_space : Judging g n m (Ok tt) → k < output_size → JudgingOutput g n m k (Err OutputTooShort)
