-- `learn::reading::enlarge` meets its contract: the loop's invariant after each command, and what follows from it at the end and at a
-- fault. The steps are given their facts, which are too many for a search. Assumes nothing.
use Rattle.std.proofs.Common.{arith}
use Rattle.grammar.proofs.Declared.{rules-long}
use Rattle.learn.proofs.Joined.{joins-none}
use Rattle.learn.proofs.Progress.{progress-first, progress_start, progress-rule, progress-place, progress-name}
use Rattle.learn.proofs.Progress.{enlarges-name, enlarges-end, enlarges-fault}
use Rattle.learn.proofs.reading.enlarge.Goals as goal

pub returns-then-bytes-eq0 : goal.returns-then-bytes-eq0
returns-then-bytes-eq0 c = joins-none c.args.old _ c.if-bytes-eq0.true c.requires c.faulty.result c.faulty.ensures

pub loop-k-init : goal.loop-k-init
loop-k-init c =
    progress-first c.args.old _ _ _ (rules-long c.args.old _ c.well_formed.0) c.requires (omega arith)
    c.words_of-words.ensures c.tidy-g.ensures

pub returns-in-Err : goal.returns-in-Err
returns-in-Err c =
    enlarges-fault _ _ _ _ _ c.loop-k.invariant _ c.last_of-q.ensures _ c.in-Err.ensures c.requires _ c.faulty-in-Err.ensures

pub loop-k-preserved-in-Ok-Start : goal.loop-k-preserved-in-Ok-Start
loop-k-preserved-in-Ok-Start c =
    progress_start _ _ _ _ _ c.loop-k.invariant _ _ c.last_of-q.ensures c.in-Ok-Start.ensures _ c.in-Ok-Start.field-0-is

pub loop-k-preserved-in-Ok-Rule : goal.loop-k-preserved-in-Ok-Rule
loop-k-preserved-in-Ok-Rule c =
    progress-rule _ _ _ _ _ c.loop-k.invariant _ _ c.last_of-q.ensures c.in-Ok-Rule.ensures _ _ _ c.in-Ok-Rule.field-0-is c.opened.ensures

pub loop-k-preserved-in-Ok-Place : goal.loop-k-preserved-in-Ok-Place
loop-k-preserved-in-Ok-Place c =
    progress-place _ _ _ _ _ c.loop-k.invariant _ _ c.last_of-q.ensures c.in-Ok-Place.ensures _ _ _ c.in-Ok-Place.field-0-is
    c.placed.ensures

pub returns-then-earlier : goal.returns-then-earlier
returns-then-earlier c =
    enlarges-name _ _ _ _ _ c.loop-k.invariant _ _ c.last_of-q.ensures c.in-Ok-Name.ensures _ _ c.in-Ok-Name.field-0-is _ c.earlier.ensures
    c.if-earlier.true c.requires _ c.faulty-then-earlier.ensures

pub loop-k-preserved : goal.loop-k-preserved
loop-k-preserved c =
    progress-name _ _ _ _ _ c.loop-k.invariant _ _ c.last_of-q.ensures c.in-Ok-Name.ensures _ _ c.in-Ok-Name.field-0-is _ c.earlier.ensures
    c.if-earlier.false _ c.named_at.ensures

pub returns-in-Ok-End : goal.returns-in-Ok-End
returns-in-Ok-End c =
    enlarges-end _ _ _ _ _ c.loop-k.invariant _ _ c.last_of-q.ensures c.in-Ok-End.ensures c.in-Ok-End.field-0-is _ c.deepened.ensures
