-- What a call that hands out a derivation answers and leaves, and what writing the first one leaves once the tables are made.
-- Assumes nothing.
use Rattle.std.specs.Prelude.{ℕ, ◌≤◌, List, ◌≡◌, length}
use Rattle.sizes.specs.Sizes.{max_nodes}
use Rattle.cfg.specs.Grammar.{Cfg}
use Rattle.cfg.specs.Listing.{L}
use Rattle.tree_first.specs.Descend.{InputGiven}
use Rattle.packed.specs.Packed.{cfg_in}
use Rattle.results.specs.Answer.{Answer, refused, answered, Handing, handed}
use Rattle.results.specs.Enumerate.{Enumeration, head_of, handing_out}
use Rattle.table_layout.specs.Layout.{cost_in}

-- what the call answered, and what it left in chart and output
abbrev pub enumeration_of : Answer Handing → List ℕ → List ℕ → Enumeration
enumeration_of a chart out = record { answer = a; chart = chart; output = out }

-- first over trees: the first of L, or refusal 13
abbrev pub first_tree : Cfg → List ℕ → List ℕ → List ℕ → Enumeration
first_tree G w chart out = handing_out (head_of (L G w)) (refused 13) chart out

-- if the least number of nodes says that there is a derivation, the output and the answer of m nodes are those of the first derivation of
-- any input of n bytes for which the tables are made
pub record FirstWritten (p : List ℕ) (rules : ℕ) (fits chart tables : List ℕ) (s n : ℕ) (out₀ out : List ℕ) (m : ℕ) : Type 0 where
  pub exact : cost_in tables s 0 n ≤ max_nodes → (w : List ℕ) → n ≡ length w → InputGiven p rules fits chart tables w
      → enumeration_of (answered (handed m)) chart out ≡ first_tree (cfg_in s p) w chart out₀
