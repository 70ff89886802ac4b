-- `filbozseg::texts::filbozseg_words` meets its contract. Assumes nothing.
use borrow.Author.Rules.{rules}
use Rattle.filbozseg.proofs.Given.{writes-of}
use Rattle.filbozseg.proofs.texts.filbozseg_words.Statement.{statement}
use Rattle.filbozseg.proofs.texts.filbozseg_words.Tie as tie

pub filbozseg_words_spec : {M : Type 1} → statement M
filbozseg_words_spec = tie.close (tie.spec
    (λ c κs. search rules) (λ c κs. search rules) (λ c κs. search rules) (λ c. search rules) (λ c. search rules)
    (λ c. search writes-of))
