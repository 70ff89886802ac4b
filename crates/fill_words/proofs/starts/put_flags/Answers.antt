-- The flags of one rule more, and of all. Assumes nothing.
use Rattle.std.proofs.Common.{◌<◌, sym, arith, length-take, get_or-take}
use Rattle.fill_words.proofs.Starting.{flags-step, flags-done}
use Rattle.fill_words.proofs.starts.put_flags.Goals as goal

pub loop-r-preserved : goal.loop-r-preserved
loop-r-preserved c =
    let below : c.loop-r.r < c.args.rules = omega (arith, length-take c.args.rules c.args.flags.now) in
    flags-step _ _ _ _ _ _ _ _ _ _ _ below (rw (sym (get_or-take c.args.rules c.args.flags.now c.loop-r.r 0 below)) c.put_rule.ensures) c.loop-r.invariant

pub returns : goal.returns
returns c = flags-done _ _ _ _ _ _ _ _ _ (omega (arith, length-take c.args.rules c.args.flags.now)) c.loop-r.invariant
