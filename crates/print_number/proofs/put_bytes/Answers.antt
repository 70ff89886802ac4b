-- The loop writes each byte in turn. Assumes nothing.
use Rattle.std.proofs.Common.{arith, refl}
use Rattle.print_number.proofs.Writing.{put-none, bytes-step, bytes-done}
use Rattle.print_number.proofs.put_bytes.Goals as goal

pub loop-i-init : goal.loop-i-init
loop-i-init c = put-none _ _ _ (omega arith)

pub loop-i-preserved : goal.loop-i-preserved
loop-i-preserved c = bytes-step _ _ _ _ _ _ refl c.loop-i.invariant c.loop-i-test.true c.requires

pub returns : goal.returns
returns c = bytes-done _ _ _ _ _ _ refl c.loop-i.invariant c.loop-i.auto.i-end c.loop-i-test.false
