-- What the declared types of the recognizer mean: its state, and what opening and taking give. Assumes nothing.
use Rattle.std.specs.Prelude.{ℕ, List}
use Rattle.results.specs.Recognize.{State, state_with, Recognition}
use Rattle.recognizer.specs.declared.Recognizer.{Recognizer}
use Rattle.recognizer.specs.declared.Advanced.{Advanced}
use Rattle.answers.specs.Answers.{verdict_of}

-- the state
abbrev pub state_in : Recognizer → State
state_in h = state_with h.bytes h.count h.year h.points

-- what a call gave, and what it left in the chart
abbrev pub recognition_of : Advanced → List ℕ → Recognition
recognition_of r chart = record { answer = verdict_of r.accepted; state = state_in r.recognizer; chart = chart }
