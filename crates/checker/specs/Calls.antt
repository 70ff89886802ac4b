-- What the exported calls answer, in the words and numbers of document 01. Assumes nothing.
use Rattle.std.specs.Prelude.{ℕ, Bool, not, List, [], ◌∷◌, ℤ}
use Rattle.results.specs.Answer.{Answer, refused, answered, check, decide}
use Rattle.results.specs.Check.{listed}
use Rattle.results.specs.Measure.{tenths_of, same_built}

-- what check, length and same build answer once checks 8, 9 and 10 are passed; l is the list of the input's derivations
abbrev pub check_answer : List (List ℕ) → List ℕ → Answer Bool
check_answer l e = answered (listed e l)

abbrev pub length_answer : (ℕ → ℤ) → List (List ℕ) → List ℕ → Answer ℤ
length_answer lengths l e = decide (check (not (listed e l)) 12 ∷ []) refused (λ _. answered (tenths_of lengths e))

abbrev pub build_answer : List (List ℕ) → List ℕ → List ℕ → Answer Bool
build_answer l d e = decide (check (not (listed d l)) 12 ∷ check (not (listed e l)) 12 ∷ []) refused (λ _. answered (same_built d e))
