-- What a call keeps of what it was lent: the chart (sheet) and the output. Assumes nothing.
use Rattle.std.specs.Prelude.{ℕ, ◌*◌, List, ◌≡◌, length, drop}
use Rattle.sizes.specs.Sizes.{cells}
use Rattle.results.specs.Answer.{Answer, refused, answered, Handing, handed, nothing}

-- a chart before and after a call: only its first 4,225 cells may differ
pub record ChartKept (before after : List ℕ) : Type 0 where
  -- the chart is as long as found
  pub same_length : length after ≡ length before
  -- what comes after the cells is as found
  pub behind : drop cells after ≡ drop cells before

-- how many numbers first and next write to the front of the output: two for each node of a derivation handed out, else none
abbrev pub writes : Answer Handing → ℕ
writes (refused n) = 0
writes (answered (handed n)) = 2 * n
writes (answered nothing) = 0

-- how many bytes words writes to the front of the buffer: those of the text, and none if it is refused
abbrev pub bytes_written : Answer ℕ → ℕ
bytes_written (refused n) = 0
bytes_written (answered n) = n

-- an output, or a buffer, before and after a call that writes n numbers to its front
pub record OutputKept (n : ℕ) (before after : List ℕ) : Type 0 where
  -- the output is as long as found
  pub same_length : length after ≡ length before
  -- what comes after the numbers written is as found: the whole output if none are written
  pub rest : drop n after ≡ drop n before
