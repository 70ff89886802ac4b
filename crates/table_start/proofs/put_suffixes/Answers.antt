-- `table_start::put_suffixes` meets its contract: an empty cell, a turn, whose rule is written again or not, and the end. Assumes nothing.
use Rattle.std.proofs.Common.{rules}
use Rattle.table_start.proofs.Again.{suffixes-none, suffixes-take, suffixes-skip, suffixes-end}
use Rattle.table_start.proofs.put_suffixes.Goals as goal
use Rattle.table_start.proofs.put_suffixes.Goals.{then-touched, else-touched}

pub returns-then-over-eq0 : goal.returns-then-over-eq0
returns-then-over-eq0 c = search (rules, suffixes-none)

pub loop-r-preserved : goal.loop-r-preserved
loop-r-preserved c =
    elim c.if-touched.branch [
      | then-touched w ↦ search (rules, suffixes-take)
      | else-touched w ↦ search (rules, suffixes-skip)
    ]

pub returns : goal.returns
returns c = search (rules, suffixes-end)
