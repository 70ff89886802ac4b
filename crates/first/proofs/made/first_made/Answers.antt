-- `first::made::first_made` meets its contract: the derivation is handed out if the least number of nodes allows it, else 13.
-- Assumes nothing.
use Rattle.first.proofs.Handing.{made-many}
use Rattle.first.proofs.made.first_made.Goals as goal

pub returns-else-exists : goal.returns-else-exists
returns-else-exists c = search made-many
