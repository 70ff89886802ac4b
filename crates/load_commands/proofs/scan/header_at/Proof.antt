-- `load_commands::scan::header_at` meets its contract: its length is the two operands that were read. Assumes nothing.
use native.Mathlib.Omega.{arith}
use Rattle.load_commands.proofs.Parts.{header-same}
use Rattle.load_commands.proofs.scan.header_at.Statement.{statement}
use Rattle.load_commands.proofs.scan.header_at.Tie as tie

pub header_at_spec : {M : Type 1} → statement M
header_at_spec = tie.close (tie.spec (λ c κs. omega arith) (λ c κs. omega arith) (λ c. search header-same))
