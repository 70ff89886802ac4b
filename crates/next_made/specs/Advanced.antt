-- The element of L after the one in a buffer, once the tables are made. Assumes nothing.
use Rattle.std.specs.Prelude.{ℕ, ◌*◌, ◌<◌, ◌≡◌, length, get_or}
use mathlib.Core.List.{List, Memᴰ}
use Rattle.std.proofs.Math.Option.{none, some}
use Rattle.sizes.specs.Sizes.{max_nodes}
use Rattle.cfg.specs.Listing.{L}
use Rattle.tree_first.specs.Descend.{InputGiven, Kept}
use Rattle.packed.specs.Packed.{cfg_in}
use Rattle.results.specs.Enumerate.{after_in}

-- the numbers of the buffer begin with e
abbrev pub StartsWith : List ℕ → List ℕ → Type 0
StartsWith buf e = (y : ℕ) → y < length e → get_or buf y 0 ≡ get_or e y 0

-- the numbers at the front of the buffer are the element after d, of m nodes
pub record Following (l : List (List ℕ)) (d buf : List ℕ) (m : ℕ) : Type 0 where
  pub numbers : List ℕ
  pub after : after_in d l ≡ some numbers
  pub size : length numbers ≡ 2 * m
  pub here : StartsWith buf numbers

-- if m is 0, there is no element after d; else the first m nodes of the buffer are that element
pub record Advanced (l : List (List ℕ)) (d buf : List ℕ) (m : ℕ) : Type 0 where
  pub none_left : m ≡ 0 → after_in d l ≡ none
  pub next : 0 < m → Following l d buf m

-- m nodes are written at the front of the buffer: for any input of n bytes for which the tables are made, they are the derivation after the
-- one that was there
pub record RootNext (p : List ℕ) (rules : ℕ) (fits chart tables : List ℕ) (s n : ℕ) (buf₀ buf : List ℕ) (m : ℕ) : Type 0 where
  pub kept : Kept max_nodes 0 m buf₀ buf
  pub exact : (w : List ℕ) → n ≡ length w → InputGiven p rules fits chart tables w → (d : List ℕ) → Memᴰ d (L (cfg_in s p) w)
      → StartsWith buf₀ d → Advanced (L (cfg_in s p) w) d buf m
