-- All cells. Assumes nothing.
use Rattle.std.proofs.Common.{rules}
use Rattle.fill_columns.proofs.Writing.{lower-done}
use Rattle.fill_columns.proofs.write.lower_cells.Goals as goal

pub returns : goal.returns
returns c = search (rules, lower-done)
