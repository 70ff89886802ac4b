-- What is found of the used numbers is what the row says of them. Assumes nothing.
use Rattle.c_hand.proofs.Counts.{used-tested}
use Rattle.c_hand.proofs.used_bytes.Goals as goal

pub returns : goal.returns
returns c = used-tested c.args.h.now _ _ _ c.from-n.ensures c.min.ensures c.all_bytes.ensures
