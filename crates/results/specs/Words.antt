-- Words: a derivation (reading) as a text (document 02, U4). The answer, and what chart and buffer hold at the end. Assumes nothing.
use Rattle.std.specs.Prelude.{ℕ, List, [], ◌∷◌, ◌++◌, ltb, length, get_or, drop}
use Rattle.cfg.specs.Grammar.{Cfg}
use Rattle.chart.specs.Column.{filled}
use Rattle.theory_words.specs.Name.{rule_text}
use Rattle.theory_words.specs.Words.{derivation_text}
use Rattle.grammar.specs.declared.Grammar.{Grammar}
use Rattle.grammar.specs.Zero.{no_rule}
use Rattle.grammar.specs.View.{Dated, grammar_of}
use Rattle.results.specs.Answer.{Answer, refused, answered, Check, check, decide}
use Rattle.results.specs.Check.{input_checks}
use Rattle.results.specs.Measure.{unlisted}

-- what words gives: how many bytes were written, and what chart and buffer hold at the end
pub record Writing : Type 0 where
  pub answer : Answer ℕ
  pub chart : List ℕ
  pub buffer : List ℕ

-- the text of the rule of a number, whatever the year: its name, or its number if it has none
abbrev pub texts_of : Grammar → ℕ → List ℕ
texts_of g r = rule_text (get_or g.rules r no_rule).name r

-- the text of a derivation of the input
abbrev pub words_text : Dated → List ℕ → List ℕ → List ℕ
words_text g w e = derivation_text (grammar_of g) (texts_of g.grammar) w e

-- 18: the text is longer than the buffer
abbrev pub text_check : List ℕ → List ℕ → Check ℕ
text_check text buffer = check (ltb (length buffer) (length text)) 18

-- a call that is refused leaves the buffer as found
abbrev pub not_written : List ℕ → List ℕ → ℕ → Writing
not_written chart buffer n = record { answer = refused n; chart = chart; buffer = buffer }

-- a text is written to the front of the buffer, and the rest stays
abbrev pub text_written : List ℕ → List ℕ → List ℕ → Writing
text_written text chart buffer =
    record { answer = answered (length text); chart = chart; buffer = text ++ drop (length text) buffer }

-- words, for the grammar G and the texts of the rules by number. The chart is filled for the input, whatever the answer
unfoldable pub words_in : Cfg → (ℕ → List ℕ) → List ℕ → List ℕ → List ℕ → List ℕ → Writing
words_in G names w offered chart buffer =
    let text = derivation_text G names w offered in
    decide (check (unlisted G w offered) 12 ∷ text_check text buffer ∷ [])
    (not_written (filled G w chart) buffer)
    (λ _. text_written text (filled G w chart) buffer)

-- words: refusals 8, 9 and 10 leave chart and buffer as found. A buffer of any length will do, if it has room for the text
unfoldable pub words_of : Dated → List ℕ → List ℕ → List ℕ → List ℕ → Writing
words_of g w offered chart buffer =
    decide (input_checks g w chart)
    (not_written chart buffer)
    (λ _. words_in (grammar_of g) (texts_of g.grammar) w offered chart buffer)
