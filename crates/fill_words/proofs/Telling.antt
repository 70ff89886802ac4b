-- The ends of the chart's spans while they are added cell by cell and column by column. Assumes nothing.
use Prim.Native.Nat.{ℕ}
use mathlib.Core.List.{List}
use mathlib.Core.Path.{◌≡◌}
use lib.ListN.{length}
use Rattle.sizes.specs.Sizes.{max_input}
use Rattle.fill_words.specs.Spans.{ends_size}
use Rattle.fill_words.specs.Ends.{EndsTo}

-- the spans that end before c, and those from the starts before i that end at c, are known if those that end before b were
module _ (chart : List ℕ) (b : ℕ) (ends₀ reach₀ : List ℕ) where
  pub record Steps (c i : ℕ) (ends reach : List ℕ) : Type 0 where
    pub long : length ends ≡ ends_size
    pub reach_long : length reach ≡ max_input
    pub told : EndsTo chart b 0 ends₀ reach₀ → EndsTo chart c i ends reach
