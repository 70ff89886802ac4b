-- `sets::wide::union` meets its contract: bit by bit. Assumes nothing.
use Rattle.sets.proofs.Pairs.{has-or}
use Rattle.sets.proofs.wide.union.Statement.{statement}
use Rattle.sets.proofs.wide.union.Tie as tie

pub union_spec : {M : Type 1} → statement M
union_spec = tie.close (tie.spec (λ c. λ k. has-or k c.args.v c.args.w))
