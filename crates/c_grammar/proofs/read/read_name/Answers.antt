-- The loop reads each byte in turn. Assumes nothing.
use Rattle.std.proofs.Common.{refl, arith}
use Rattle.c_grammar.specs.Flat.{row_name}
use Rattle.c_grammar.proofs.Records.{read-start, read_step, read_done}
use Rattle.c_grammar.proofs.read.read_name.Goals as goal

pub loop-k-init : goal.loop-k-init
loop-k-init c = read-start _ _ _ _ _ refl

pub loop-k-preserved : goal.loop-k-preserved
loop-k-preserved c = read_step _ _ _ _ _ c.loop-k.k _ _ c.loop-k.invariant (omega arith) c.byte.ensures (omega arith)

pub returns : goal.returns
unfolding row_name
returns c = read_done _ _ _ _ _ _ c.loop-k.invariant (omega arith)
