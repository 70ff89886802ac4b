-- `sets::with` meets its contract: `or` with the shifted 1 inserts k. Assumes nothing.
use native.Mathlib.Omega.{arith}
use Rattle.sets.proofs.Machine.{shift-or-is-insert}
use Rattle.sets.proofs.with.Statement.{statement}
use Rattle.sets.proofs.with.Tie as tie

pub with_spec : {M : Type 1} → statement M
with_spec = tie.close (tie.spec (λ c. omega arith) (λ c. omega arith) (λ c. shift-or-is-insert 32 c.args.k c.args.w c.requires))
