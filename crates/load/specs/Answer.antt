-- What the loader hands back, in the words of document 01. Assumes nothing.
use Rattle.answers.specs.Answers.{outcome_of}
use Rattle.results.specs.Load.{Loading}
use Rattle.load.specs.declared.Loaded.{Loaded}

abbrev pub loading_of : Loaded → Loading
loading_of l = record { answer = outcome_of l.outcome; grammar = l.grammar }
