-- `learn::turn::command_at` meets its contract: each return by its law. Assumes nothing.
use Rattle.learn.proofs.Turns.{learns-ended, learns-unknown, learns-misplaced, learns-second, learns-rest}
use Rattle.learn.proofs.turn.command_at.Goals as goal

pub returns-then-at-bytes : goal.returns-then-at-bytes
returns-then-at-bytes c = search learns-ended

pub returns-in_default : goal.returns-in_default
returns-in_default c = search (learns-unknown, c.in_default.ensures)

pub returns-then-misplaced : goal.returns-then-misplaced
returns-then-misplaced c = search (learns-misplaced, c.in-Ok.ensures)

pub returns-then-second_name : goal.returns-then-second_name
returns-then-second_name c = search (learns-second, c.in-Ok.ensures)

pub returns : goal.returns
returns c = search (learns-rest, c.in-Ok.ensures)
