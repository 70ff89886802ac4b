-- What the program hands to the write: the next bytes of the text each time, and in the end all of them. Assumes nothing.
use Rattle.std.specs.Prelude.{ℕ, suc, ◌*◌, ◌≡◌, ℤ, length}
use mathlib.Core.List.{List, ◌++◌, flatten}
use Rattle.sizes.specs.Sizes.{most}
use Rattle.text.specs.Text.{text_of}
use Rattle.print_begin.specs.declared.Due.{Due}
use Rattle.print_begin.specs.declared.Due.TheVariants.{Nothing}
use Rattle.print_page.specs.Page.{page_size}
use Rattle.print_page.specs.Pages.{Pages}

-- the most bytes that all pages have
abbrev pub max_text : ℕ
max_text = page_size * suc most

-- the bytes come in the text of book, file with the year and plate after the first `before` bytes
pub record Next (book file w : List ℕ) (before : ℕ) (bytes : List ℕ) : Type 0 where
  pub front : List ℕ
  pub rest : List ℕ
  pub text : flatten (text_of book file w) ≡ front ++ bytes ++ rest
  pub place : length front ≡ before

-- n bytes were handed to the write: those of all pages, from what was due first until nothing is due
pub record Handed (lengths : ℕ → ℤ) (p fits chart tables : List ℕ) (d : Due) (buf : List ℕ) (n : ℕ) : Type 0 where
  pub pages : List (List ℕ)
  pub last : List ℕ
  pub run : Pages lengths p fits chart tables d buf pages Nothing last
  pub bytes : n ≡ length (flatten pages)

-- n bytes were handed to the write: those of the text
pub record Listed (book file w : List ℕ) (n : ℕ) : Type 0 where
  pub whole : n ≡ length (flatten (text_of book file w))
