-- `names::follows` meets its contract. Assumes nothing.
use borrow.Author.Rules.{rules}
use Rattle.names.proofs.Valid.{follows-blank, follows-byte, follows-ended}
use Rattle.names.proofs.follows.Statement.{statement}
use Rattle.names.proofs.follows.Tie as tie

pub follows_spec : {M : Type 1} → statement M
follows_spec = tie.close (tie.spec
    (λ c κs. search rules) (λ c. search follows-blank) (λ c. search follows-byte) (λ c. search follows-ended))
