-- What the declared type of learning means. Assumes nothing.
use Rattle.std.specs.Prelude.{ℕ, List}
use Rattle.answers.specs.Answers.{verdict_of}
use Rattle.results.specs.Learn.{Learning}
use Rattle.recognizer.specs.Recognizer.{state_in}
use Rattle.learn.specs.declared.Learnt.{Learnt}

-- what learning gave, and what it left in the chart
abbrev pub learning_of : Learnt → List ℕ → Learning
learning_of l chart = record {
  answer = verdict_of l.accepted;
  offset = l.offset;
  grammar = l.grammar;
  state = state_in l.recognizer;
  chart = chart;
}
