-- `filbozseg::enumerate::filbozseg_count` meets its contract. Assumes nothing.
use borrow.Author.Rules.{rules}
use Rattle.filbozseg.proofs.Given.{counts_of}
use Rattle.filbozseg.proofs.enumerate.filbozseg_count.Statement.{statement}
use Rattle.filbozseg.proofs.enumerate.filbozseg_count.Tie as tie

pub filbozseg_count_spec : {M : Type 1} → statement M
filbozseg_count_spec = tie.close (tie.spec
    (λ c κs. search rules) (λ c κs. search rules) (λ c κs. search rules) (λ c. search rules) (λ c. search counts_of))
