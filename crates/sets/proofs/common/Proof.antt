-- `sets::common` meets its contract: bit by bit. Assumes nothing.
use Rattle.sets.proofs.Pairs.{has-and}
use Rattle.sets.proofs.common.Statement.{statement}
use Rattle.sets.proofs.common.Tie as tie

pub common_spec : {M : Type 1} → statement M
common_spec = tie.close (tie.spec (λ c. λ k. has-and k c.args.v c.args.w))
