-- What `words` answers and leaves once the chart is filled. Assumes nothing.
use Rattle.std.specs.Prelude.{ℕ, not, List, [], ◌∷◌}
use Rattle.results.specs.Answer.{Answer, check, decide}
use Rattle.results.specs.Check.{listed}
use Rattle.results.specs.Words.{Writing, text_check, not_written, text_written}

-- what the call answered, and what it left in chart and buffer
abbrev pub writing_of : Answer ℕ → List ℕ → List ℕ → Writing
writing_of a chart buffer = record { answer = a; chart = chart; buffer = buffer }

-- `words` over a filled chart; l is the list of the input's derivations, and `text` that of the one offered
abbrev pub words_filled : List (List ℕ) → List ℕ → List ℕ → List ℕ → List ℕ → Writing
words_filled l e text chart buffer =
    decide (check (not (listed e l)) 12 ∷ text_check text buffer ∷ []) (not_written chart buffer) (λ _. text_written text chart buffer)
