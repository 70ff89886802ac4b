-- `filbozseg::filbozseg_take` meets its contract. Assumes nothing.
use borrow.Author.Rules.{rules}
use Rattle.filbozseg.proofs.Given.{takes_of}
use Rattle.filbozseg.proofs.filbozseg_take.Statement.{statement}
use Rattle.filbozseg.proofs.filbozseg_take.Tie as tie

pub filbozseg_take_spec : {M : Type 1} → statement M
filbozseg_take_spec = tie.close (tie.spec
    (λ c κs. search rules) (λ c κs. search rules) (λ c κs. search rules) (λ c κs. search rules) (λ c. search rules) (λ c. search takes_of))
