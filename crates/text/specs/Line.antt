-- The lines of the listing program, each with its newline. Assumes nothing.
use Rattle.std.specs.Prelude.{ℕ, List, [], ◌∷◌, ◌++◌, ℤ}
use Rattle.results.specs.Answer.{Figure, counted, more}
use Rattle.text.specs.Number.{decimal, signed_decimal}

-- the bytes between the numbers
abbrev pub newline : ℕ
newline = 10

abbrev pub space : ℕ
space = 32

abbrev pub point : ℕ
point = 46

abbrev pub colon : ℕ
colon = 58

abbrev pub equals : ℕ
equals = 61

-- the nodes (parts) of a derivation, with a space before each: bytes (marks) covered, point, rule
unfoldable pub parts : List ℕ → List ℕ
parts [] = []
parts (cover ∷ []) = []
parts (cover ∷ r ∷ e) = (space ∷ decimal cover) ++ (point ∷ decimal r) ++ parts e

-- what follows the nodes: an equals sign, and the length in tenths
unfoldable pub length_end : ℤ → List ℕ
length_end z = (space ∷ equals ∷ space ∷ signed_decimal z) ++ (newline ∷ [])

-- the line of a derivation (reading): its place in the list, a colon, its nodes, its length in tenths
unfoldable pub line : ℕ → List ℕ → ℤ → List ℕ
line place e tenths = decimal place ++ (colon ∷ parts e) ++ length_end tenths

-- `REFUSED` and the number
unfoldable pub refused_line : ℕ → List ℕ
refused_line n = (0x52 ∷ 0x45 ∷ 0x46 ∷ 0x55 ∷ 0x53 ∷ 0x45 ∷ 0x44 ∷ space ∷ decimal n) ++ (newline ∷ [])

-- `NO READING`
unfoldable pub no_reading_line : List ℕ
no_reading_line = 0x4E ∷ 0x4F ∷ space ∷ 0x52 ∷ 0x45 ∷ 0x41 ∷ 0x44 ∷ 0x49 ∷ 0x4E ∷ 0x47 ∷ newline ∷ []

-- `READINGS` and a space
abbrev pub readings_word : List ℕ
readings_word = 0x52 ∷ 0x45 ∷ 0x41 ∷ 0x44 ∷ 0x49 ∷ 0x4E ∷ 0x47 ∷ 0x53 ∷ space ∷ []

-- `READINGS` and the count, or `READINGS more`
unfoldable pub readings_line : Figure → List ℕ
readings_line (counted n) = readings_word ++ decimal n ++ (newline ∷ [])
readings_line more = readings_word ++ (0x6D ∷ 0x6F ∷ 0x72 ∷ 0x65 ∷ newline ∷ [])
