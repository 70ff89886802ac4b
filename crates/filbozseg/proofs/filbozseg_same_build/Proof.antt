-- `filbozseg::filbozseg_same_build` meets its contract. Assumes nothing.
use borrow.Author.Rules.{rules}
use Rattle.filbozseg.proofs.Given.{checks-build-of}
use Rattle.filbozseg.proofs.filbozseg_same_build.Statement.{statement}
use Rattle.filbozseg.proofs.filbozseg_same_build.Tie as tie

pub filbozseg_same_build_spec : {M : Type 1} → statement M
filbozseg_same_build_spec = tie.close (tie.spec
    (λ c κs. search rules) (λ c κs. search rules) (λ c κs. search rules) (λ c. search rules) (λ c. search checks-build-of))
