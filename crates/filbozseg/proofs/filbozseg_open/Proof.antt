-- `filbozseg::filbozseg_open` meets its contract. Assumes nothing.
use borrow.Author.Rules.{rules}
use Rattle.filbozseg.proofs.Given.{opens_of}
use Rattle.filbozseg.proofs.filbozseg_open.Statement.{statement}
use Rattle.filbozseg.proofs.filbozseg_open.Tie as tie

pub filbozseg_open_spec : {M : Type 1} → statement M
filbozseg_open_spec = tie.close (tie.spec
    (λ c κs. search rules) (λ c κs. search rules) (λ c κs. search rules) (λ c κs. search rules) (λ c. search rules) (λ c. search opens_of))
