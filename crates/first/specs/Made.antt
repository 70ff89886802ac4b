-- What is handed out once the tables are made. Assumes nothing.
use Rattle.std.specs.Prelude.{ℕ, List, ◌≡◌, length}
use Rattle.tree_first.specs.Descend.{InputGiven}
use Rattle.first_made.specs.Written.{enumeration_of, first_tree}
use Rattle.packed.specs.Packed.{cfg_in}
use Rattle.results.specs.Answer.{Answer, Handing}

-- the answer and the output are those of the first derivation of any input of n bytes for which the tables are made
pub record FirstMade (p : List ℕ) (rules : ℕ) (fits chart tables : List ℕ) (s n : ℕ) (out₀ out : List ℕ) (a : Answer Handing)
    : Type 0 where
  pub exact : (w : List ℕ) → n ≡ length w → InputGiven p rules fits chart tables w
      → enumeration_of a chart out ≡ first_tree (cfg_in s p) w chart out₀
