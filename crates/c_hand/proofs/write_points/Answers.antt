-- The loop writes each point in turn. Assumes nothing.
use Rattle.std.proofs.Common.{arith}
use Rattle.recognizer.proofs.Declared.{points-long}
use Rattle.c_hand.proofs.Copies.{put-start, put_step, put-done}
use Rattle.c_hand.proofs.write_points.Goals as goal

pub loop-i-init : goal.loop-i-init
loop-i-init c = put-start c.args.h.now _ c.requires (points-long c.args.r _ c.well_formed.0)

pub loop-i-preserved : goal.loop-i-preserved
loop-i-preserved c =
    put_step c.args.h.now _ c.requires (points-long c.args.r _ c.well_formed.0) c.loop-i.i _ _ c.loop-i.invariant (omega arith) c.from.ensures

pub returns : goal.returns
returns c = put-done c.args.h.now _ c.requires (points-long c.args.r _ c.well_formed.0) c.loop-i.i _ c.loop-i.invariant (omega arith)
