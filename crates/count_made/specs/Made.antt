-- What is counted once the tables are made. Assumes nothing.
use Rattle.std.specs.Prelude.{ℕ, ◌<◌, List, [], ◌≡◌, length, get_or}
use Rattle.cfg.specs.Listing.{L}
use Rattle.tree_first.specs.Descend.{InputGiven}
use Rattle.packed.specs.Packed.{cfg_in}
use Rattle.results.specs.Answer.{Answer, answered, Figure}
use Rattle.results.specs.Enumerate.{figure}
use Rattle.next_made.specs.Advanced.{StartsWith}
use Rattle.count_made.specs.Answer.{count_tree}

-- element i of the list, counted from 0, is at the front of the buffer
pub record Stands (l : List (List ℕ)) (i : ℕ) (buf : List ℕ) : Type 0 where
  pub there : i < length l
  pub here : StartsWith buf (get_or l i [])

-- if the buffer held the first derivation, the answer is the one for the number of derivations of any input of n bytes for which the tables
-- are made
pub record CountedOn (p : List ℕ) (rules : ℕ) (fits chart tables : List ℕ) (s n : ℕ) (buf : List ℕ) (a : Answer Figure) : Type 0 where
  pub exact : (w : List ℕ) → n ≡ length w → InputGiven p rules fits chart tables w → Stands (L (cfg_in s p) w) 0 buf
      → a ≡ answered (figure (length (L (cfg_in s p) w)))

-- the same without a buffer, for an input that has trees: the answer for their number, or refusal 13
pub record CountedMade (p : List ℕ) (rules : ℕ) (fits chart tables : List ℕ) (s n : ℕ) (a : Answer Figure) : Type 0 where
  pub exact : (w : List ℕ) → n ≡ length w → InputGiven p rules fits chart tables w → a ≡ count_tree (L (cfg_in s p) w)
