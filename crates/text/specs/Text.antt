-- What the listing program prints, from the bytes of the book, of the file with the year, and of the plate, as a list of lines.
-- Assumes nothing.
use Rattle.std.specs.Prelude.{ℕ, suc, ◌+◌, ◌*◌, cond, List, [], ◌∷◌, ◌++◌, ℤ, length, take, replicate}
use Rattle.sizes.specs.Sizes.{cells, most}
use Rattle.cfg.specs.Grammar.{Cfg}
use Rattle.cfg.specs.Listing.{L}
use Rattle.grammar.specs.View.{Dated, dated, grammar_of, lengths_of}
use Rattle.results.specs.Answer.{refused_at, loaded, decide}
use Rattle.results.specs.Load.{Loading, load_of}
use Rattle.results.specs.Check.{input_check}
use Rattle.results.specs.Measure.{tenths_of}
use Rattle.results.specs.Enumerate.{tree_in, figure}
use Rattle.text.specs.Line.{line, refused_line, no_reading_line, readings_line}

-- the lines of derivations (readings), where the first has this place in the list
unfoldable pub lines_from : (ℕ → ℤ) → ℕ → List (List ℕ) → List (List ℕ)
lines_from lengths place [] = []
lines_from lengths place (e ∷ l) = line place e (tenths_of lengths e) ∷ lines_from lengths (suc place) l

-- the lines of a list of derivations: at most the first 4,096, then how many there are
unfoldable pub list_text : (ℕ → ℤ) → List (List ℕ) → List (List ℕ)
list_text lengths l = lines_from lengths 1 (take most l) ++ (readings_line (figure (length l)) ∷ [])

-- the one line if there is no derivation: refusal 13 for an input with a tree, else `NO READING`
unfoldable pub empty_text : Cfg → List ℕ → List (List ℕ)
empty_text G w = cond (tree_in G w (replicate cells 0)) (refused_line 13) no_reading_line ∷ []

-- the lines of an input by its list of derivations; `empty` if that is empty
unfoldable pub text_by : (ℕ → ℤ) → List (List ℕ) → List (List ℕ) → List (List ℕ)
text_by lengths empty [] = empty
text_by lengths empty (e ∷ l) = list_text lengths (e ∷ l)

-- the lines of an input for a loaded grammar; refusal 9 is given here
unfoldable pub input_text : Dated → List ℕ → List (List ℕ)
input_text g w =
    decide (input_check w ∷ []) (λ n. refused_line n ∷ [])
    (λ _. text_by (lengths_of g.grammar) (empty_text (grammar_of g) w) (L (grammar_of g) w))

-- the lines of an input in a year for what loading gave: the book is judged first
unfoldable pub loaded_text : Loading → ℕ → List ℕ → List (List ℕ)
loaded_text b y w = elim b.answer [ refused_at n at ↦ refused_line n ∷ [] | loaded ↦ input_text (dated b.grammar y) w ]

-- the year that a file has: of two bytes, low and then high; of another length, and so of no file, the year 0
unfoldable pub year_in : List ℕ → ℕ
year_in [] = 0
year_in (low ∷ []) = 0
year_in (low ∷ high ∷ []) = low + 256 * high
year_in (low ∷ high ∷ other ∷ rest) = 0

-- the text
unfoldable pub text_of : List ℕ → List ℕ → List ℕ → List (List ℕ)
text_of book file w = loaded_text (load_of book) (year_in file) w
