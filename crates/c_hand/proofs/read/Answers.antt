-- The state of the parts that were read. Assumes nothing.
use Rattle.c_hand.proofs.Copies.{read_of}
use Rattle.c_hand.proofs.read.Goals as goal

pub returns : goal.returns
returns c = read_of c.args.h.now _ _ _ c.read_bytes-bytes.ensures c.from.ensures c.hand_points-points.ensures
