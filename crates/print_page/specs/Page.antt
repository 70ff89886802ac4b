-- One page of the listing: its bytes are the next ones of the text, and the rest of the text is still ahead. Assumes nothing.
use Rattle.std.specs.Prelude.{ℕ, ◌-◌, ◌≤◌, ◌<◌, Bool, true, false, ◌≡◌, ℤ, length, take}
use mathlib.Core.List.{List, ◌++◌, flatten}
use Rattle.print_line.specs.Sizes.{line_size}
use Rattle.print_begin.specs.declared.Due.{Due}
use Rattle.print_begin.specs.declared.Due.TheVariants.{Refusal, NoReading, Reading, Total, More, Nothing}
use Rattle.print_begin.specs.Due.{Ahead, DueSized, steps_left}

-- the most bytes that a page has
abbrev pub page_size : ℕ
page_size = 65536

-- a page with at most this many bytes has room for any further line
abbrev pub room : ℕ
room = page_size - line_size

-- whether nothing is due
abbrev pub is_done : Due → Bool
is_done (Refusal number) = false
is_done NoReading = false
is_done (Reading s rules n i nodes) = false
is_done (Total number) = false
is_done More = false
is_done Nothing = true

-- the text of the lines is these bytes, and then the text of the lines that are ahead now
pub record Rest (lengths : ℕ → ℤ) (p fits chart tables buf : List ℕ) (d : Due) (lines : List (List ℕ)) (bytes : List ℕ) : Type 0 where
  pub left : List (List ℕ)
  pub ahead : Ahead lengths p fits chart tables buf d left
  pub text : flatten lines ≡ bytes ++ flatten left

-- the first r bytes of the output are the next page; if something is due after it, a further line might not fit
pub record Paged (lengths : ℕ → ℤ) (p fits chart tables : List ℕ) (d₀ : Due) (buf₀ buf out₀ out : List ℕ) (r : ℕ) (d : Due) : Type 0 where
  pub long : length buf ≡ length buf₀
  pub out_long : length out ≡ length out₀
  pub within : r ≤ length out
  pub sized : DueSized d
  pub fewer : steps_left d ≤ steps_left d₀ - 1
  pub full : is_done d ≡ false → room < r
  pub printed : (lines : List (List ℕ)) → Ahead lengths p fits chart tables buf₀ d₀ lines
      → Rest lengths p fits chart tables buf d lines (take r out)
