-- The loop reads each byte in turn. Assumes nothing.
use Rattle.std.proofs.Common.{arith, refl}
use Rattle.c_hand.proofs.Copies.{copied-start, read_step, read_done}
use Rattle.c_hand.proofs.read_bytes.Goals as goal

pub loop-i-init : goal.loop-i-init
loop-i-init c = copied-start _ _ _ _ refl

pub loop-i-preserved : goal.loop-i-preserved
loop-i-preserved c = read_step c.args.h _ _ _ c.loop-i.invariant c.well_formed.0.1.0.1 (omega arith) c.byte.ensures

pub returns : goal.returns
returns c = read_done _ _ _ c.loop-i.invariant (omega arith)
