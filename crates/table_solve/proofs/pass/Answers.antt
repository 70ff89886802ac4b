-- `table_solve::pass` meets its contract: a turn, whose rule lowers a number or not. Assumes nothing.
use Rattle.std.proofs.Common.{rules}
use Rattle.table_solve.proofs.Passing.{passed-changed, passed-kept}
use Rattle.table_solve.proofs.pass.Goals as goal
use Rattle.table_solve.proofs.pass.Goals.{then-improve, else-improve}

pub loop-r-preserved : goal.loop-r-preserved
loop-r-preserved c =
    elim c.if-improve.branch [
      | then-improve w ↦ search (rules, passed-changed)
      | else-improve w ↦ search (rules, passed-kept)
    ]
