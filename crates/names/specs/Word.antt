-- A name as one word of 64 bits, so that names are compared in one step. Assumes nothing.
use Rattle.std.specs.Prelude.{ℕ, ◌+◌, ◌*◌, Bool, false, ◌||◌, List, [], ◌∷◌, eqb}

-- the word of a name, its first byte lowest
unfoldable pub word_of : List ℕ → ℕ
word_of [] = 0
word_of (b ∷ l) = b + 256 * word_of l

-- a word is one of these
unfoldable pub has_word : ℕ → List ℕ → Bool
has_word w [] = false
has_word w (v ∷ l) = eqb v w || has_word w l
