-- `filbozseg::recall::filbozseg_return_to` meets its contract. Assumes nothing.
use borrow.Author.Rules.{rules}
use Rattle.filbozseg.proofs.Given.{returns_of}
use Rattle.filbozseg.proofs.recall.filbozseg_return_to.Statement.{statement}
use Rattle.filbozseg.proofs.recall.filbozseg_return_to.Tie as tie

pub filbozseg_return_to_spec : {M : Type 1} → statement M
filbozseg_return_to_spec = tie.close (tie.spec
    (λ c κs. search rules) (λ c κs. search rules) (λ c κs. search rules) (λ c κs. search rules) (λ c. search rules)
    (λ c. search returns_of))
