-- No place, one place more, and all. Assumes nothing.
use Rattle.std.proofs.Common.{arith}
use Rattle.fill_inner.proofs.Rule.{begins-start, begins-step, begins-done}
use Rattle.fill_inner.proofs.places.begins.Goals as goal

pub loop-q-init : goal.loop-q-init
loop-q-init c = begins-start _ _ _ _ _ _ _ _

pub loop-q-preserved : goal.loop-q-preserved
loop-q-preserved c = begins-step _ _ _ _ _ _ _ _ _ _ _ _ c.begins_at.ensures c.with_if-v.ensures c.loop-q.invariant

pub returns : goal.returns
returns c = begins-done _ _ _ _ _ _ _ _ _ _ (omega arith) c.loop-q.invariant
