-- `first_made::write_first` meets its contract: the first tree of the start symbol over all bytes. Assumes nothing.
use Rattle.std.proofs.Common.{rules}
use Rattle.first_made.proofs.Writing.{written-first}
use Rattle.first_made.proofs.write_first.Goals as goal

pub returns : goal.returns
returns c = rw c.unwrap_or.ensures (search (rules, written-first))
