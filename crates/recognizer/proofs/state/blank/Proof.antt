-- `recognizer::state::blank` meets its contract. Assumes nothing.
use Rattle.results.specs.Recognize.{hand_of}
use mathlib.Core.Path.{refl}
use Rattle.recognizer.proofs.state.blank.Statement.{statement}
use Rattle.recognizer.proofs.state.blank.Tie as tie

pub blank_spec : {M : Type 1} → statement M
unfolding hand_of
blank_spec = tie.close (tie.spec (λ c. refl))
