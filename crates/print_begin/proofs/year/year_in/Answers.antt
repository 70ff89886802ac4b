-- The year by the length of the file. Assumes nothing.
use Rattle.std.proofs.Common.{arith, ◌∙◌}
use Rattle.print_begin.proofs.Years.{year-two, year-none}
use Rattle.print_begin.proofs.year.year_in.Goals as goal

pub returns-in-len2 : goal.returns-in-len2
returns-in-len2 c = c.from_le_bytes.ensures ∙ year-two _ (omega arith)

pub returns-in_default : goal.returns-in_default
returns-in_default c = year-none _ (λ e. omega arith)

pub returns-in_default-2 : goal.returns-in_default-2
returns-in_default-2 c = year-none _ (λ e. omega arith)
