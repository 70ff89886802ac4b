-- When the checks 8 to 11 of a call on an input are passed, in plain terms. Assumes nothing.
use Rattle.std.specs.Prelude.{ℕ, ◌≤◌, true, List, ◌≡◌, length}
use Rattle.sizes.specs.Sizes.{cells, max_input, output_size}
use Rattle.grammar.specs.Valid.{valid_grammar}
use Rattle.grammar.specs.View.{Dated}

-- checks 8, 9 and 10 are passed
pub record Ready (g : Dated) (w chart : List ℕ) : Type 0 where
  -- 8
  pub valid : valid_grammar g.grammar ≡ true
  -- 9
  pub short : length w ≤ max_input
  -- 10
  pub room : cells ≤ length chart

-- checks 8 to 11 are passed
pub record ReadyOut (g : Dated) (w chart out : List ℕ) : Type 0 where
  -- 8, 9 and 10
  pub input : Ready g w chart
  -- 11
  pub space : output_size ≤ length out
