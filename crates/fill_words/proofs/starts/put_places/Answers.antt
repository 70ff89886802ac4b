-- One place more. Assumes nothing.
use Rattle.std.proofs.Common.{inl, arith}
use Rattle.fill_words.proofs.Adding.{places-step}
use Rattle.fill_words.proofs.starts.put_places.Goals as goal

pub loop-q-preserved : goal.loop-q-preserved
loop-q-preserved c = (
  inl (omega arith),
  places-step _ _ _ _ _ _ _ _ _ _ _ _ (omega arith) (omega arith) (omega arith) c.contains-test.ensures c.with_if.ensures
      c.with_if-in-loop-q.ensures c.loop-q.invariant.1,
)
