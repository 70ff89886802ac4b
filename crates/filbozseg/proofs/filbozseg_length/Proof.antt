-- `filbozseg::filbozseg_length` meets its contract. Assumes nothing.
use borrow.Author.Rules.{rules}
use Rattle.filbozseg.proofs.Given.{measures-of}
use Rattle.filbozseg.proofs.filbozseg_length.Statement.{statement}
use Rattle.filbozseg.proofs.filbozseg_length.Tie as tie

pub filbozseg_length_spec : {M : Type 1} → statement M
filbozseg_length_spec = tie.close (tie.spec
    (λ c κs. search rules) (λ c κs. search rules) (λ c κs. search rules) (λ c. search rules) (λ c. search measures-of))
