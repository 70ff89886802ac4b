-- `sets::less` meets its contract: bit by bit. Assumes nothing.
use Rattle.sets.proofs.Pairs.{has-less}
use Rattle.sets.proofs.less.Statement.{statement}
use Rattle.sets.proofs.less.Tie as tie

pub less_spec : {M : Type 1} → statement M
less_spec = tie.close (tie.spec (λ c. λ k. has-less k c.args.v c.args.w))
