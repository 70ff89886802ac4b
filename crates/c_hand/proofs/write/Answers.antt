-- The loop writes each byte in turn; the count, the year and the points follow. Assumes nothing.
use Rattle.std.proofs.Common.{arith, refl, ◌∙◌}
use Rattle.recognizer.proofs.Declared.{bytes-long}
use Rattle.c_hand.proofs.Copies.{copied-start, copied-step, stored-long, write_done}
use Rattle.c_hand.proofs.write.Goals as goal

pub loop-k-init : goal.loop-k-init
loop-k-init c = copied-start _ _ _ _ refl

pub loop-k-preserved : goal.loop-k-preserved
loop-k-preserved c =
    copied-step _ _ _ _ _ _ c.loop-k.invariant (omega (arith, bytes-long c.args.r _ c.well_formed.0)) (omega arith) (omega arith) c.from.ensures

pub write_points-requires : goal.write_points-requires
write_points-requires c = stored-long c.loop-k.h c.saturate.result c.args.r.year c.loop-k.invariant.long

pub returns : goal.returns
returns c =
    c.write_points.ensures
    ∙ write_done _ _ _ _ c.loop-k.invariant (bytes-long c.args.r _ c.well_formed.0) (omega arith) c.saturate.ensures
