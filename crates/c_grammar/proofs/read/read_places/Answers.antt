-- The loop reads each place in turn. Assumes nothing.
use Rattle.std.proofs.Common.{refl, arith}
use Rattle.c_grammar.specs.Flat.{row_places}
use Rattle.c_grammar.proofs.Records.{read-start, read_step, read_done}
use Rattle.c_grammar.proofs.read.read_places.Goals as goal

pub loop-q-init : goal.loop-q-init
loop-q-init c = read-start _ _ _ _ _ refl

pub loop-q-preserved : goal.loop-q-preserved
loop-q-preserved c = read_step _ _ _ _ _ c.loop-q.q _ _ c.loop-q.invariant (omega arith) c.read_place.ensures (omega arith)

pub returns : goal.returns
unfolding row_places
returns c = read_done _ _ _ _ _ _ c.loop-q.invariant (omega arith)
