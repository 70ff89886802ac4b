-- One step of the listing program: the line that it writes, and what is still to be printed after it. Assumes nothing.
use Rattle.std.specs.Prelude.{ℕ, ◌+◌, ◌*◌, ◌-◌, ◌≤◌, List, [], ◌∷◌, ◌≡◌, ℤ, length, take}
use Rattle.sizes.specs.Sizes.{most}
use Rattle.cfg.specs.Listing.{L}
use Rattle.count_made.specs.Made.{Stands}
use Rattle.tree_first.specs.Descend.{InputGiven}
use Rattle.packed.specs.Packed.{cfg_in}
use Rattle.results.specs.Measure.{tenths_of}
use Rattle.text.specs.Line.{line}
use Rattle.print_begin.specs.declared.Due.{Due}
use Rattle.print_begin.specs.Due.{lines_at, Ahead, DueSized, steps_left}

-- the line of the derivation at the front of the buffer, which has `nodes` nodes
abbrev pub line_in : (ℕ → ℤ) → ℕ → ℕ → List ℕ → List ℕ
line_in lengths place nodes buf = line place (take (2 * nodes) buf) (tenths_of lengths (take (2 * nodes) buf))

-- the first of the lines, and the lines after it
abbrev pub head_line : List (List ℕ) → List ℕ
head_line [] = []
head_line (x ∷ lines) = x

abbrev pub behind : List (List ℕ) → List (List ℕ)
behind [] = []
behind (x ∷ lines) = lines

-- what is due after derivation i of an input for which the tables are made: the lines after it are ahead
pub record Followed (p : List ℕ) (rules : ℕ) (fits chart tables : List ℕ) (s n i : ℕ) (buf₀ buf : List ℕ) (d : Due) : Type 0 where
  pub long : length buf ≡ length buf₀
  pub sized : DueSized d
  pub fewer : steps_left d ≤ most - i
  pub ahead : (lengths : ℕ → ℤ) (w : List ℕ) → n ≡ length w → InputGiven p rules fits chart tables w → Stands (L (cfg_in s p) w) i buf₀
      → Ahead lengths p fits chart tables buf d (lines_at lengths (L (cfg_in s p) w) (i + 1))

-- the first of the lines ahead is written, in r bytes, and the lines after it are ahead then
pub record Stepped (lengths : ℕ → ℤ) (p fits chart tables : List ℕ) (d₀ : Due) (buf₀ buf out₀ out : List ℕ) (r : ℕ) (d : Due) : Type 0
  where
    pub long : length buf ≡ length buf₀
    pub out_long : length out ≡ length out₀
    pub within : r ≤ length out
    pub sized : DueSized d
    pub fewer : steps_left d ≤ steps_left d₀ - 1
    pub printed : (lines : List (List ℕ)) → Ahead lengths p fits chart tables buf₀ d₀ lines → take r out ≡ head_line lines
    pub ahead : (lines : List (List ℕ)) → Ahead lengths p fits chart tables buf₀ d₀ lines
        → Ahead lengths p fits chart tables buf d (behind lines)
