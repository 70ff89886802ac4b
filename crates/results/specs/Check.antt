-- Checking an offered derivation: whether it is a derivation (reading) of the input. Assumes nothing.
use Rattle.std.specs.Prelude.{ℕ, Bool, true, false, ◌&&◌, ◌||◌, List, [], ◌∷◌, eqb, ltb, length}
use Rattle.sizes.specs.Sizes.{max_input}
use Rattle.cfg.specs.Grammar.{Cfg}
use Rattle.cfg.specs.Listing.{L}
use Rattle.chart.specs.Column.{filled}
use Rattle.grammar.specs.View.{Dated, grammar_of}
use Rattle.results.specs.Answer.{Answer, refused, answered, Check, check, decide}
use Rattle.results.specs.Recognize.{grammar_check, chart_check}

-- two lists of numbers are the same
unfoldable pub same : List ℕ → List ℕ → Bool
same [] [] = true
same [] (b ∷ y) = false
same (a ∷ x) [] = false
same (a ∷ x) (b ∷ y) = eqb a b && same x y

-- a list is in a list of lists
unfoldable pub listed : List ℕ → List (List ℕ) → Bool
listed e [] = false
listed e (d ∷ l) = same e d || listed e l

-- 9: more than 64 bytes
abbrev pub input_check : List ℕ → Check ℕ
input_check w = check (ltb max_input (length w)) 9

-- 8, 9, 10: the checks of every call on an input
abbrev pub input_checks : Dated → List ℕ → List ℕ → List (Check ℕ)
input_checks g w chart = grammar_check g.grammar ∷ input_check w ∷ chart_check chart ∷ []

-- what a call without an output gives: the answer, and what the chart holds at the end
pub record Checking (A : Type 0) : Type 0 where
  pub answer : Answer A
  pub chart : List ℕ

-- such a call: if it is refused, it leaves the chart as found; else it goes on with the grammar
unfoldable pub on_input : {A : Type 0} → Dated → List ℕ → List ℕ → (Cfg → Checking A) → Checking A
on_input g w chart go =
    decide (input_checks g w chart) (λ n. record { answer = refused n; chart = chart }) (λ _. go (grammar_of g))

-- check, for the grammar G: yes exactly if the offered derivation is in L. The chart is filled for the input, whatever the answer
unfoldable pub check_in : Cfg → List ℕ → List ℕ → List ℕ → Checking Bool
check_in G w offered chart = record { answer = answered (listed offered (L G w)); chart = filled G w chart }

-- check
unfoldable pub check_of : Dated → List ℕ → List ℕ → List ℕ → Checking Bool
check_of g w offered chart = on_input g w chart (λ G. check_in G w offered chart)
