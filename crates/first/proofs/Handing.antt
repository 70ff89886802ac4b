-- What is handed out once the tables are made, by the tests that the code makes. Assumes nothing.
use Prim.Native.Nat.{ℕ}
use mathlib.Core.Bool.{Bool, false}
use mathlib.Core.List.{List}
use mathlib.Core.Path.{◌≡◌, sym, ◌∙◌}
use lib.Dec.{leb}
use Rattle.sizes.specs.Sizes.{max_nodes}
use Rattle.results.specs.Answer.{refused}
use Rattle.table_layout.specs.Layout.{cost_in}
use Rattle.first_made.proofs.Writing.{empty-larger}
use Rattle.first.specs.Made.{FirstMade}
use Rattle.first.proofs.Root.{first-empty}

module _ (p : List ℕ) (rules : ℕ) (fits chart tables : List ℕ) (s n : ℕ) (out₀ : List ℕ) where
  module _ (b : Bool) (told : b ≡ leb (cost_in tables s 0 n) max_nodes) where
    pub made-many : b ≡ false → FirstMade p rules fits chart tables s n out₀ out₀ (refused 13)
    made-many h = record {
      exact = λ w to given.
          first-empty p w s chart out₀ (refused 13) (empty-larger p rules fits chart tables s n w to given (sym told ∙ h));
    }
