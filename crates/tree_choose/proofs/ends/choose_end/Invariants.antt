-- The loop of `choose_end`: each end that was passed costs more than the budget. Assumes nothing.
use Rattle.tree_choose.specs.Chosen.{EndsTooCostly}
use Rattle.tree_choose.proofs.ends.choose_end.Given as goal

abbrev pub invariant-loop-b : goal.invariant-loop-b
invariant-loop-b l = EndsTooCostly l.tables l.full l.k l.i l.a l.from l.j l.rows l.at l.budget l.b
