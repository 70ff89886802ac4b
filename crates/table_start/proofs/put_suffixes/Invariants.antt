-- The loop's invariant of `table_start::put_suffixes`: the costs of the rules passed are right. Assumes nothing.
use Rattle.table_start.specs.Starts.{SuffixesPut}
use Rattle.table_start.proofs.put_suffixes.Given as goal

abbrev pub invariant-loop-r : goal.invariant-loop-r
invariant-loop-r l =
    SuffixesPut l.p l.r l.fits l.tables l.full l.over.cell l.over.reach l.over.i l.over.j l.initial.rows l.initial.live l.rows l.live
