-- `fill_holders::hold_all` meets its contract: one more rule is held in each turn. Assumes nothing.
use Rattle.std.proofs.Common.{◌≡◌, ◌<◌, get_or, take, get_or-take, subst, arith}
use Rattle.fill_holders.specs.Holders.{HeldOf}
use Rattle.fill_holders.proofs.Holding.{all_start, all-step}
use Rattle.fill_holders.proofs.hold_all.Goals as goal

pub loop-r-init : goal.loop-r-init
loop-r-init c = search all_start

pub loop-r-preserved : goal.loop-r-preserved
loop-r-preserved c =
    let r = c.loop-r.r in
    let l : r < c.args.rules = omega arith in
    let own : get_or (take c.args.rules c.args.kinds.now) r 0 ≡ get_or c.args.kinds.now r 0 = rw get_or-take in
    all-step _ _ _ _ (subst (λ k. HeldOf r k c.loop-r.holders c.hold.new.holders) own c.hold.ensures) c.loop-r.invariant
