-- `names::name_byte` meets its contract. Assumes nothing.
use Rattle.names.proofs.Valid.{digit-range, capital-range, no-range}
use Rattle.names.proofs.name_byte.Statement.{statement}
use Rattle.names.proofs.name_byte.Tie as tie

pub name_byte_spec : {M : Type 1} → statement M
name_byte_spec = tie.close (tie.spec (λ c. search digit-range) (λ c. search capital-range) (λ c. search no-range))
