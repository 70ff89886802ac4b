-- `filbozseg::enumerate::filbozseg_next` meets its contract. Assumes nothing.
use borrow.Author.Rules.{rules}
use Rattle.filbozseg.proofs.Given.{hands-next-of}
use Rattle.filbozseg.proofs.enumerate.filbozseg_next.Statement.{statement}
use Rattle.filbozseg.proofs.enumerate.filbozseg_next.Tie as tie

pub filbozseg_next_spec : {M : Type 1} → statement M
filbozseg_next_spec = tie.close (tie.spec
    (λ c κs. search rules) (λ c κs. search rules) (λ c κs. search rules) (λ c. search rules) (λ c. search rules)
    (λ c. search hands-next-of))
