-- The listing of T with the plate `A` is document 01's, byte for byte; the years of some files; what is printed for the plate of no marks.
-- Each is proved by computing it. Assumes nothing.
use mathlib.Core.List.{[], ◌∷◌, map}
use mathlib.Core.Path.{◌≡◌, refl}
use lib.IntN.{pos}
use Rattle.results.specs.Answer.{counted}
use Rattle.results.specs.Drawer.{T, As}
use Rattle.results.specs.Requests.{only_a}
use Rattle.results.proofs.Computing.{computing}
use Rattle.results.proofs.EmptyInput.{empty_larger}
use Rattle.text.specs.Number.{decimal_by, decimal, signed_decimal}
use Rattle.text.specs.Line.{parts, length_end, line, refused_line, no_reading_line, readings_line}
use Rattle.text.specs.Text.{lines_from, list_text, empty_text, text_by, input_text, loaded_text, year_in, text_of}
use Rattle.text.specs.Sample.{listing_of_t}

unfoldable printing : Unit {0}
unfolding computing decimal_by decimal signed_decimal parts length_end line refused_line no_reading_line readings_line lines_from list_text
    empty_text text_by input_text loaded_text year_in text_of
printing = tt

pub listing-of-T : text_of T [] (As 1) ≡ listing_of_t
unfolding printing
listing-of-T = refl

-- the years of files of no byte, of one, two and three bytes
pub years-read : map year_in ([] ∷ (0xD7 ∷ []) ∷ (0xD7 ∷ 0x07 ∷ []) ∷ (0xD7 ∷ 0x07 ∷ 0x00 ∷ []) ∷ []) ≡ 0 ∷ 0 ∷ 2007 ∷ 0 ∷ []
unfolding printing
years-read = refl

-- ---- the plate of no marks

-- T has one reading of it
pub empty-list : text_of T [] [] ≡ line 1 (0 ∷ 0 ∷ 0 ∷ 1 ∷ 0 ∷ 1 ∷ []) (pos 460) ∷ readings_line (counted 1) ∷ []
unfolding printing
empty-list = refl

-- 0 → A has no tree for it
pub empty-no-reading : text_of only_a [] [] ≡ no_reading_line ∷ []
unfolding printing
empty-no-reading = refl

-- with larger trees only, it is refused
pub empty-larger : text_of empty_larger [] [] ≡ refused_line 13 ∷ []
unfolding printing
empty-larger = refl
