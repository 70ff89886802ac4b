-- `filbozseg::recall::filbozseg_set_point` meets its contract. Assumes nothing.
use borrow.Author.Rules.{rules}
use Rattle.filbozseg.proofs.Given.{sets_of}
use Rattle.filbozseg.proofs.recall.filbozseg_set_point.Statement.{statement}
use Rattle.filbozseg.proofs.recall.filbozseg_set_point.Tie as tie

pub filbozseg_set_point_spec : {M : Type 1} → statement M
filbozseg_set_point_spec = tie.close (tie.spec
    (λ c κs. search rules) (λ c κs. search rules) (λ c κs. search rules) (λ c κs. search rules) (λ c. search sets_of))
