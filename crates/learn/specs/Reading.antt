-- What reading a rule gives: an outcome and a grammar. Assumes nothing.
use Rattle.std.specs.Prelude.{ℕ, List, map}
use Rattle.names.specs.Word.{word_of}
use Rattle.grammar.specs.declared.Grammar.{Grammar}
use Rattle.answers.specs.Answers.{outcome_of}
use Rattle.results.specs.Answer.{refused_at, loaded}
use Rattle.results.specs.Load.{Fault, Loading}
use Rattle.results.specs.Learn.{Joining, faulty, longer}
use Rattle.learn.specs.declared.reading.Enlarged.{Enlarged}

-- the outcome and the grammar
abbrev pub reading_of : Enlarged → Loading
reading_of e = record { answer = outcome_of e.outcome; grammar = e.grammar }

-- a fault, with the old grammar
abbrev pub fault_in : Grammar → Fault → Loading
fault_in old f = record { answer = refused_at f.number f.offset; grammar = old }

-- what the bytes of a rule make of the old grammar
abbrev pub joined_to : Grammar → Joining → Loading
joined_to old (faulty f) = fault_in old f
joined_to old (longer g) = record { answer = loaded; grammar = g }

-- the words of the names of all records
abbrev pub name_words : Grammar → List ℕ
name_words g = map (λ r. word_of r.name) g.rules
