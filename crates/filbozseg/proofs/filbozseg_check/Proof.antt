-- `filbozseg::filbozseg_check` meets its contract. Assumes nothing.
use borrow.Author.Rules.{rules}
use Rattle.filbozseg.proofs.Given.{checks-of}
use Rattle.filbozseg.proofs.filbozseg_check.Statement.{statement}
use Rattle.filbozseg.proofs.filbozseg_check.Tie as tie

pub filbozseg_check_spec : {M : Type 1} → statement M
filbozseg_check_spec = tie.close (tie.spec
    (λ c κs. search rules) (λ c κs. search rules) (λ c κs. search rules) (λ c. search rules) (λ c. search checks-of))
