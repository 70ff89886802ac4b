-- `load::load` meets its contract: the loop's invariant after each command, and what follows from it at the end and at a fault. The steps
-- are given their facts, which are too many for a search. Assumes nothing.
use Rattle.load.proofs.Progress.{progress-first, progress_start, progress-rule, progress-place, progress-name}
use Rattle.load.proofs.Progress.{loads-name, loads-end, loads-fault}
use Rattle.load.proofs.load.Goals as goal

pub loop-k-init : goal.loop-k-init
loop-k-init c = progress-first _ _ c.zero_grammar-g.ensures

pub returns-in-Err : goal.returns-in-Err
returns-in-Err c = loads-fault _ _ _ _ c.loop-k.invariant _ c.last_of-q.ensures _ c.in-Err.ensures _ c.refused-in-Err.ensures

pub loop-k-preserved-in-Ok-Start : goal.loop-k-preserved-in-Ok-Start
loop-k-preserved-in-Ok-Start c =
    progress_start _ _ _ _ c.loop-k.invariant _ _ c.last_of-q.ensures c.in-Ok-Start.ensures _ c.in-Ok-Start.field-0-is

pub loop-k-preserved-in-Ok-Rule : goal.loop-k-preserved-in-Ok-Rule
loop-k-preserved-in-Ok-Rule c =
    progress-rule _ _ _ _ c.loop-k.invariant _ _ c.last_of-q.ensures c.in-Ok-Rule.ensures _ _ _ c.in-Ok-Rule.field-0-is c.opened.ensures

pub loop-k-preserved-in-Ok-Place : goal.loop-k-preserved-in-Ok-Place
loop-k-preserved-in-Ok-Place c =
    progress-place _ _ _ _ c.loop-k.invariant _ _ c.last_of-q.ensures c.in-Ok-Place.ensures _ _ _ c.in-Ok-Place.field-0-is c.placed.ensures

pub returns-then-earlier : goal.returns-then-earlier
returns-then-earlier c =
    loads-name _ _ _ _ c.loop-k.invariant _ _ c.last_of-q.ensures c.in-Ok-Name.ensures _ _ c.in-Ok-Name.field-0-is _ c.earlier.ensures
    c.if-earlier.true _ c.refused.ensures

pub loop-k-preserved : goal.loop-k-preserved
loop-k-preserved c =
    progress-name _ _ _ _ c.loop-k.invariant _ _ c.last_of-q.ensures c.in-Ok-Name.ensures _ _ c.in-Ok-Name.field-0-is _ c.earlier.ensures
    c.if-earlier.false _ c.named_at.ensures

pub returns-in-Ok-End : goal.returns-in-Ok-End
returns-in-Ok-End c =
    loads-end _ _ _ _ c.loop-k.invariant _ _ c.last_of-q.ensures c.in-Ok-End.ensures _ c.in-Ok-End.field-0-is c.accepted.ensures
