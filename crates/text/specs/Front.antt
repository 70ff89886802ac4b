-- How many of the first bytes of a book, of a file with a year and of a plate decide the text (proofs/Front.antt). Assumes nothing.
use Rattle.std.specs.Prelude.{ℕ, ◌+◌}
use Rattle.sizes.specs.Sizes.{max_input}

-- of a book: a start and 128 rules of 8 places and a name each take fewer bytes
abbrev pub book_front : ℕ
book_front = 8192

-- of a file with a year: one byte more than such a file has
abbrev pub year_front : ℕ
year_front = 3

-- of a plate: one byte more than a plate may have
abbrev pub plate_front : ℕ
plate_front = max_input + 1
