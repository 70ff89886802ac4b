-- `filbozseg::enumerate::filbozseg_first` meets its contract. Assumes nothing.
use borrow.Author.Rules.{rules}
use Rattle.filbozseg.proofs.Given.{hands-first-of}
use Rattle.filbozseg.proofs.enumerate.filbozseg_first.Statement.{statement}
use Rattle.filbozseg.proofs.enumerate.filbozseg_first.Tie as tie

pub filbozseg_first_spec : {M : Type 1} → statement M
filbozseg_first_spec = tie.close (tie.spec
    (λ c κs. search rules) (λ c κs. search rules) (λ c κs. search rules) (λ c. search rules) (λ c. search rules)
    (λ c. search hands-first-of))
