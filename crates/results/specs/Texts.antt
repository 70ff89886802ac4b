-- Lines of the table of the requests for U4: derivations of T as texts, in buffers of several lengths. Assumes nothing.
use Rattle.std.specs.Prelude.{ℕ, List, [], ◌∷◌, ◌++◌, replicate}
use Rattle.sizes.specs.Sizes.{cells}
use Rattle.grammar.specs.declared.Grammar.{Grammar}
use Rattle.grammar.specs.View.{dated}
use Rattle.results.specs.Answer.{Answer, refused, answered}
use Rattle.results.specs.Words.{words_of}
use Rattle.results.specs.Drawer.{T, As}
use Rattle.results.specs.Starred.{grammar_from}
use Rattle.results.specs.NameLines.{named_t}

-- the derivations of `A`, and that of no bytes
abbrev pub empty_first : List ℕ
empty_first = 1 ∷ 0 ∷ 0 ∷ 1 ∷ 1 ∷ 2 ∷ []

abbrev pub empty_second : List ℕ
empty_second = 1 ∷ 0 ∷ 1 ∷ 2 ∷ 0 ∷ 1 ∷ []

abbrev pub both_empty : List ℕ
both_empty = 0 ∷ 0 ∷ 0 ∷ 1 ∷ 0 ∷ 1 ∷ []

-- `#000`, `#001()` and `#002(=41)`
abbrev pub text0 : List ℕ
text0 = 0x23 ∷ 0x30 ∷ 0x30 ∷ 0x30 ∷ []

abbrev pub text1 : List ℕ
text1 = 0x23 ∷ 0x30 ∷ 0x30 ∷ 0x31 ∷ 0x28 ∷ 0x29 ∷ []

abbrev pub text2 : List ℕ
text2 = 0x23 ∷ 0x30 ∷ 0x30 ∷ 0x32 ∷ 0x28 ∷ 0x3D ∷ 0x34 ∷ 0x31 ∷ 0x29 ∷ []

-- a text with two in parentheses after it, and a comma between these
abbrev pub enclosing : List ℕ → List ℕ → List ℕ → List ℕ
enclosing name a b = name ++ (0x28 ∷ a) ++ (0x2C ∷ b) ++ (0x29 ∷ [])

-- a line: a grammar, an input, a row, how long the buffer is, the answer of words, and what the buffer holds then
pub record TextLine : Type 0 where
  pub grammar : Grammar
  pub input : List ℕ
  pub offered : List ℕ
  pub room : ℕ
  pub gives : Answer ℕ × List ℕ

-- a line of these
abbrev pub text_line : Grammar → List ℕ → List ℕ → ℕ → Answer ℕ → List ℕ → TextLine
text_line g w e n answer left = record { grammar = g; input = w; offered = e; room = n; gives = (answer, left) }

-- what words gives for a line in the year 0, over a chart and a buffer that hold other numbers
unfoldable pub text_outcome : TextLine → Answer ℕ × List ℕ
text_outcome l =
    let r = words_of (dated l.grammar 0) l.input l.offered (replicate cells 7) (replicate l.room 9) in
    (r.answer, r.buffer)

-- the lines
unfoldable pub text_lines : List TextLine
text_lines =
    let t = grammar_from T in
    -- both derivations of `A`, in a buffer that the text just fits and in one that is longer
    text_line t (As 1) empty_first 22 (answered 22) (enclosing text0 text1 text2)
    ∷ text_line t (As 1) empty_second 22 (answered 22) (enclosing text0 text2 text1)
    ∷ text_line t (As 1) empty_first 25 (answered 22) (enclosing text0 text1 text2 ++ replicate 3 9)
    -- rule 0 named `BODY`
    ∷ text_line (grammar_from named_t) (As 1) empty_first 22 (answered 22) (enclosing (0x42 ∷ 0x4F ∷ 0x44 ∷ 0x59 ∷ []) text1 text2)
    -- an input of no bytes
    ∷ text_line t [] both_empty 19 (answered 19) (enclosing text0 text1 text1)
    -- a buffer that is one byte short, and one of no bytes
    ∷ text_line t (As 1) empty_first 21 (refused 18) (replicate 21 9)
    ∷ text_line t (As 1) empty_first 0 (refused 18) []
    -- what is no derivation, in the same buffers
    ∷ text_line t (As 1) both_empty 22 (refused 12) (replicate 22 9)
    ∷ text_line t (As 1) both_empty 0 (refused 12) []
    ∷ []
