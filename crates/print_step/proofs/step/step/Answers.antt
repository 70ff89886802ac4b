-- `print_step::step::step` meets its contract: it writes the line of a derivation, and what is due after it follows. Assumes nothing.
use Rattle.std.proofs.Common.{rules}
use Rattle.print_step.proofs.Stepping.{stepped-reading}
use Rattle.print_step.proofs.step.step.Goals as goal

pub returns-in-Reading : goal.returns-in-Reading
returns-in-Reading c = search (rules, stepped-reading)
