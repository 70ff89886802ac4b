-- `count::count_made` meets its contract: the buffer holds the first derivation and the count goes on from it, or each tree is too large.
-- Assumes nothing.
use Rattle.count.proofs.Made.{made_counted, made-many}
use Rattle.count.proofs.count_made.Goals as goal

pub returns-then-exists : goal.returns-then-exists
returns-then-exists c = search made_counted

pub returns-else-exists : goal.returns-else-exists
returns-else-exists c = search made-many
