-- `filbozseg::name::filbozseg_name` meets its contract: by whether the part is empty. Assumes nothing.
use borrow.Author.Rules.{rules}
use Rattle.filbozseg.proofs.Given.{finds-none, finds-part}
use Rattle.filbozseg.proofs.name.filbozseg_name.Statement.{statement}
use Rattle.filbozseg.proofs.name.filbozseg_name.Tie as tie

pub filbozseg_name_spec : {M : Type 1} → statement M
filbozseg_name_spec = tie.close (tie.spec (λ c κs. search rules) (λ c. search finds-none) (λ c. search finds-part))
