-- What a call on an input gives if it writes no output. Assumes nothing.
use Rattle.std.specs.Prelude.{ℕ, List}
use Rattle.results.specs.Answer.{Answer}
use Rattle.results.specs.Check.{Checking}

-- what the call answered, and what it left in the chart
abbrev pub checking_of : {A : Type 0} → Answer A → List ℕ → Checking A
checking_of a chart = record { answer = a; chart = chart }
