-- `count::count_filled` meets its contract: 0 if the chart is not complete, else the count over trees. Assumes nothing.
use Rattle.count.proofs.Made.{count_none, count-complete}
use Rattle.count.proofs.count_filled.Goals as goal

pub returns-then-complete : goal.returns-then-complete
returns-then-complete c = search count-complete

pub returns-else-complete : goal.returns-else-complete
returns-else-complete c = search count_none
