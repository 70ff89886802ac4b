-- `first::first_filled` meets its contract: "no reading" if the chart is not complete, else the first derivation or 13.
-- Assumes nothing.
use Rattle.first.proofs.Root.{first-none, first-complete}
use Rattle.first.proofs.first_filled.Goals as goal

pub returns-then-complete : goal.returns-then-complete
returns-then-complete c = search first-complete

pub returns-else-complete : goal.returns-else-complete
returns-else-complete c = search first-none
