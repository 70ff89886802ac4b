-- What `next` hands out once the tables are made. Assumes nothing.
use Rattle.std.specs.Prelude.{ℕ, ◌≡◌, length}
use mathlib.Core.List.{List, Memᴰ}
use Rattle.cfg.specs.Grammar.{Cfg}
use Rattle.cfg.specs.Listing.{L}
use Rattle.tree_first.specs.Descend.{InputGiven}
use Rattle.packed.specs.Packed.{cfg_in}
use Rattle.results.specs.Answer.{Answer, Handing, answered, nothing}
use Rattle.results.specs.Enumerate.{Enumeration, after_in, handing_out}
use Rattle.first_made.specs.Written.{enumeration_of}

-- `next` of a derivation: the one after it in L, or "none"
abbrev pub next_tree : Cfg → List ℕ → List ℕ → List ℕ → List ℕ → Enumeration
next_tree G w offered chart out = handing_out (after_in offered (L G w)) (answered nothing) chart out

-- the answer and the output are those of `next` for any input of n bytes for which the tables are made, if the offered row is one of its
-- derivations
pub record NextMade (p : List ℕ) (rules : ℕ) (fits chart tables : List ℕ) (s n : ℕ) (offered out₀ out : List ℕ) (a : Answer Handing)
    : Type 0 where
  pub exact : (w : List ℕ) → n ≡ length w → InputGiven p rules fits chart tables w → Memᴰ offered (L (cfg_in s p) w)
      → enumeration_of a chart out ≡ next_tree (cfg_in s p) w offered chart out₀
