-- The loop's invariant of `table_start::open_starts`: the costs of the rules passed are written. Assumes nothing.
use Rattle.table_start.specs.Starts.{StartsOpened}
use Rattle.table_start.proofs.open_starts.Given as goal

abbrev pub invariant-loop-r : goal.invariant-loop-r
invariant-loop-r l =
    StartsOpened l.p l.r l.fits l.tables l.nothing l.over.reach l.over.i l.over.j l.initial.rows l.initial.live l.rows l.live
