-- The end of the book, an unknown byte, a command out of turn, and what is left of one in turn, each by its law. Assumes nothing.
use Rattle.load_commands.proofs.Steps.{reads-ended, reads-unknown, reads-late, reads-rest}
use Rattle.load_commands.proofs.scan.command_at.Goals as goal

pub returns-then-at-len : goal.returns-then-at-len
returns-then-at-len c = search reads-ended

pub returns-in_default : goal.returns-in_default
returns-in_default c = search (reads-unknown, c.in_default.ensures)

pub returns-then-out_of_turn : goal.returns-then-out_of_turn
returns-then-out_of_turn c = search (reads-late, c.in-Ok.ensures)

pub returns : goal.returns
returns c = search (reads-rest, c.in-Ok.ensures)
