-- `next_made::successor::advance_root` meets its contract: the tree after the one in the buffer, at the root. Assumes nothing.
use Rattle.next_made.proofs.Root.{root-next}
use Rattle.next_made.proofs.successor.advance_root.Goals as goal

pub returns-clause-next : goal.returns-clause-next
returns-clause-next c = search root-next
