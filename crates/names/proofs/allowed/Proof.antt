-- `names::allowed` meets its contract. Assumes nothing.
use borrow.Author.Rules.{rules}
use Rattle.names.proofs.Compared.{allowed-unnamed, allowed-named}
use Rattle.names.proofs.allowed.Statement.{statement}
use Rattle.names.proofs.allowed.Tie as tie

pub allowed_spec : {M : Type 1} → statement M
allowed_spec = tie.close (tie.spec
    (λ c κs. search rules) (λ c κs. search rules) (λ c. search allowed-unnamed) (λ c. search allowed-named))
