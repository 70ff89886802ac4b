-- The bytes passed are written. Assumes nothing.
use Rattle.sizes.specs.Sizes.{max_input}
use Rattle.c_hand.specs.Hand.{hand_size}
use Rattle.c_hand.proofs.Copies.{Copied}
use Rattle.c_hand.proofs.write.Given as goal

abbrev pub invariant-loop-k : goal.invariant-loop-k
invariant-loop-k l = Copied max_input l.fn.r.bytes hand_size l.k l.h
