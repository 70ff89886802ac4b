-- With the used rules all that the table has to say is written. Assumes nothing.
use Rattle.packed_fit.proofs.Tables.{table_done}
use Rattle.packed_fit.proofs.table.Goals as goal

pub returns : goal.returns
returns c = search table_done
