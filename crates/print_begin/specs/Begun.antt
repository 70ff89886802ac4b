-- What each function of the first step leaves: what is due, and the lines that are ahead then. Assumes nothing.
use Rattle.std.specs.Prelude.{ℕ, cond, List, [], ◌∷◌, ◌≡◌, ℤ, length}
use Rattle.sizes.specs.Sizes.{max_rules}
use Rattle.cfg.specs.Listing.{L}
use Rattle.chart.specs.Column.{complete}
use Rattle.check_length.specs.Measure.{lengths_in}
use Rattle.grammar.specs.View.{Dated}
use Rattle.packed.specs.Packed.{cfg_in}
use Rattle.text.specs.Line.{refused_line, no_reading_line}
use Rattle.text.specs.Text.{text_by, input_text, text_of}
use Rattle.print_begin.specs.declared.Due.{Due}
use Rattle.print_begin.specs.Due.{Ahead, DueSized}

-- where trees exist
pub record TreeBegun (p : List ℕ) (s : ℕ) (w chart fits tables buf₀ buf : List ℕ) (d : Due) : Type 0 where
  pub long : length buf ≡ length buf₀
  pub sized : DueSized d
  pub ahead : (lengths : ℕ → ℤ) → Ahead lengths p fits chart tables buf d (text_by lengths (refused_line 13 ∷ []) (L (cfg_in s p) w))

-- over a chart that is filled
pub record FilledBegun (p : List ℕ) (s : ℕ) (w chart fits tables buf₀ buf : List ℕ) (d : Due) : Type 0 where
  pub long : length buf ≡ length buf₀
  pub sized : DueSized d
  pub ahead : (lengths : ℕ → ℤ) → Ahead lengths p fits chart tables buf d
      (text_by lengths (cond (complete (cfg_in s p) (length w) chart) (refused_line 13) no_reading_line ∷ []) (L (cfg_in s p) w))

-- for a grammar that is valid
pub record InputBegun (g : Dated) (w p : List ℕ) (lengths : List ℤ) (chart₀ chart fits tables buf₀ buf : List ℕ) (d : Due) : Type 0 where
  pub rows : length lengths ≡ max_rules
  pub chart_long : length chart ≡ length chart₀
  pub long : length buf ≡ length buf₀
  pub sized : DueSized d
  pub ahead : Ahead (lengths_in lengths) p fits chart tables buf d (input_text g w)

-- for the bytes of a book and of a file with a year
pub record BookBegun (book file w p : List ℕ) (lengths : List ℤ) (chart₀ chart fits tables buf₀ buf : List ℕ) (d : Due) : Type 0 where
  pub rows : length lengths ≡ max_rules
  pub chart_long : length chart ≡ length chart₀
  pub long : length buf ≡ length buf₀
  pub sized : DueSized d
  pub ahead : Ahead (lengths_in lengths) p fits chart tables buf d (text_of book file w)
