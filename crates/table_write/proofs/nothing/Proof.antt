-- `table_write::nothing` meets its contract. Assumes nothing.
use Rattle.table_layout.proofs.Entries.{full-many}
use Rattle.table_write.proofs.nothing.Statement.{statement}
use Rattle.table_write.proofs.nothing.Tie as tie

pub nothing_spec : {M : Type 1} → statement M
nothing_spec = tie.close (tie.spec (λ c. record { none = full-many }))
