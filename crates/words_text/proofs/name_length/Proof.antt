-- `words_text::name_length` meets its contract: the name of a rule begins at its offset. Assumes nothing.
use native.Mathlib.Omega.{arith}
use Rattle.words_text.specs.Names.{name_in}
use Rattle.words_text.proofs.Names.{row_room}
use Rattle.words_text.proofs.name_length.Statement.{statement}
use Rattle.words_text.proofs.name_length.Tie as tie

pub name_length_spec : {M : Type 1} → statement M
unfolding name_in
name_length_spec = tie.close (tie.spec
    (λ c. omega arith) (λ c κs. search row_room) (λ c. c.length_at.ensures))
