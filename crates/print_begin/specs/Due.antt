-- Which lines are still to be printed, given what is due and what the program holds. Assumes nothing.
use Rattle.std.specs.Prelude.{ℕ, suc, ◌*◌, ◌-◌, ◌≤◌, ◌<◌, List, [], ◌∷◌, ◌++◌, ◌≡◌, ℤ, length, get_or, take, drop}
use Rattle.sizes.specs.Sizes.{max_rules, max_nodes, side, most}
use Rattle.cfg.specs.Listing.{L}
use Rattle.count_made.specs.Made.{Stands}
use Rattle.tree_first.specs.Descend.{InputGiven}
use Rattle.packed.specs.Packed.{cfg_in}
use Rattle.results.specs.Answer.{counted, more}
use Rattle.results.specs.Enumerate.{figure}
use Rattle.text.specs.Line.{refused_line, no_reading_line, readings_line}
use Rattle.text.specs.Text.{lines_from}
use Rattle.print_begin.specs.declared.Due.{Due}
use Rattle.print_begin.specs.declared.Due.TheVariants.{Refusal, NoReading, Reading, Total, More, Nothing}

-- the lines of a list of derivations from number i on, counted from 0: at most those of the first 4,096, then how many there are
abbrev pub lines_at : (ℕ → ℤ) → List (List ℕ) → ℕ → List (List ℕ)
lines_at lengths l i = lines_from lengths (suc i) (drop i (take most l)) ++ (readings_line (figure (length l)) ∷ [])

-- what the program holds: derivation i of an input of n bytes is in the buffer and has `nodes` nodes. The rest is made for that input, and
-- the lines are those from that derivation on
pub record Holds (lengths : ℕ → ℤ) (p fits chart tables : List ℕ) (s rules n i nodes : ℕ) (buf : List ℕ) (lines : List (List ℕ)) : Type 0
  where
    pub input : List ℕ
    pub long : n ≡ length input
    pub given : InputGiven p rules fits chart tables input
    pub stands : Stands (L (cfg_in s p) input) i buf
    pub size : length (get_or (L (cfg_in s p) input) i []) ≡ 2 * nodes
    pub early : i < most
    pub ahead : lines ≡ lines_at lengths (L (cfg_in s p) input) i

-- the lines that are still to be printed
abbrev pub Ahead : (ℕ → ℤ) → List ℕ → List ℕ → List ℕ → List ℕ → List ℕ → Due → List (List ℕ) → Type 0
Ahead lengths p fits chart tables buf (Refusal number) lines = lines ≡ refused_line number ∷ []
Ahead lengths p fits chart tables buf NoReading lines = lines ≡ no_reading_line ∷ []
Ahead lengths p fits chart tables buf (Reading s rules n i nodes) lines = Holds lengths p fits chart tables s rules n i nodes buf lines
Ahead lengths p fits chart tables buf (Total number) lines = lines ≡ readings_line (counted number) ∷ []
Ahead lengths p fits chart tables buf More lines = lines ≡ readings_line more ∷ []
Ahead lengths p fits chart tables buf Nothing lines = lines ≡ []

-- the numbers are within their bounds: that of a refusal is a byte
abbrev pub DueSized : Due → Type 0
DueSized (Refusal number) = number < 256
DueSized NoReading = Unit {0}
DueSized (Reading s rules n i nodes) = (rules ≤ max_rules) × (n < side) × (i < most) × (nodes ≤ max_nodes)
DueSized (Total number) = number ≤ most
DueSized More = Unit {0}
DueSized Nothing = Unit {0}

-- the most steps until nothing is due
abbrev pub steps_left : Due → ℕ
steps_left (Refusal number) = 1
steps_left NoReading = 1
steps_left (Reading s rules n i nodes) = suc most - i
steps_left (Total number) = 1
steps_left More = 1
steps_left Nothing = 0
