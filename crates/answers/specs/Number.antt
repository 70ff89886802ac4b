-- The numbers that documents 01 and 02 give the refusals. Assumes nothing.
use Rattle.std.specs.Prelude.{ℕ}
use Rattle.answers.specs.declared.Refusal.{Refusal}
use Rattle.answers.specs.declared.Refusal.TheVariants as R

-- the number of each refusal
abbrev pub number_of : Refusal → ℕ
number_of R.UnexpectedEnd = 1
number_of R.UnknownCommand = 2
number_of R.OutOfTurn = 3
number_of R.NonterminalTooLarge = 4
number_of R.TooManyRules = 5
number_of R.TooManyPlaces = 6
number_of R.FurtherByte = 7
number_of R.InvalidGrammar = 8
number_of R.InputLength = 9
number_of R.ChartTooShort = 10
number_of R.OutputTooShort = 11
number_of R.NotADerivation = 12
number_of R.OnlyLargerTrees = 13
number_of R.InvalidRecognizer = 14
number_of R.RecognizerFull = 15
number_of R.RangeReversed = 16
number_of R.InvalidName = 17
number_of R.TextTooLong = 18
number_of R.NoPoint = 19
number_of R.NotOneRule = 20
number_of R.YearsReversed = 21
